use Rattle.std.proofs.Common.{◌-◌, ◌≤◌}
use Rattle.std.specs.List.{flat_map, range_with_len}
use Rattle.std.specs.Fmt.{HasWritten, IsPlainFormatter}
use Rattle.shown.specs.Text.{square_text}
use Rattle.tables.specs.Table.{pair_at}
use Rattle.shown.proofs.grades.RowDisplay.fmt.Given as goal

-- the grades with the numbers so far are written
abbrev pub invariant-loop-number : goal.invariant-loop-number
invariant-loop-number g l =
    (1 ≤ l.number)
    × (IsPlainFormatter l.initial.f
    → HasWritten g.W.Write.write_str_gives l.initial.f (flat_map (λ n. square_text (pair_at (g.T.TraceTable.means l.fn.self.table.now) l.fn.self.event n)) (range_with_len 1 (l.number - 1))) l.f)
