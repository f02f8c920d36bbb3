use Rattle.std.proofs.Common.{◌-◌, ◌++◌, ◌≤◌, codes}
use Rattle.std.specs.List.{flat_map, range_with_len}
use Rattle.std.specs.Fmt.{HasWritten, IsPlainFormatter}
use Rattle.shown.specs.Text.{row_text}
use Rattle.shown.proofs.grades.GradesDisplay.fmt.Given as goal

-- the rows of the events so far are written
abbrev pub invariant-loop-event : goal.invariant-loop-event
invariant-loop-event g l =
    (1 ≤ l.event)
    × (IsPlainFormatter l.initial.f
    → HasWritten g.W.Write.write_str_gives l.initial.f (flat_map (λ e. codes "\n" ++ row_text (g.T.TraceTable.means l.fn.self.0.now) e) (range_with_len 1 (l.event - 1))) l.f)
