use Rattle.std.proofs.Common.{◌≡◌, ℕ, List, ◌+◌, ◌++◌, drop}
use Rattle.std.specs.Fmt.{HasWritten, IsPlainFormatter}
use Rattle.costs.specs.Plain.{plain_of}
use Rattle.tables.specs.Table.{pair_at}
use Rattle.judge.specs.Renumbering.{pairs, pairs_from}
use Rattle.shown.specs.Text.{priced_text}
use Rattle.shown.proofs.worked.PricedDisplay.fmt.Given as goal

-- what is written, and what the pairs that are left add to it
abbrev pub invariant-loop-place : goal.invariant-loop-place
invariant-loop-place g l =
    IsPlainFormatter l.initial.f
    → (done : List ℕ)
    × HasWritten g.W.Write.write_str_gives l.initial.f done l.f
    × (done ++ priced_text (pair_at (g.T.TraceTable.means l.fn.self.table.now)) l.total (pairs_from (l.place + 1) (drop l.place l.number-items))
    ≡ priced_text (pair_at (g.T.TraceTable.means l.fn.self.table.now)) (plain_of 0) (pairs l.number-items))
