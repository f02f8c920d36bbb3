use Rattle.std.proofs.Common.{take}
use Rattle.std.specs.Fmt.{HasWritten, IsPlainFormatter}
use Rattle.shown.specs.Text.{marked_text}
use Rattle.shown.proofs.lists.MarkedDisplay.fmt.Given as goal

-- the marked events so far are written
abbrev pub invariant-loop-place : goal.invariant-loop-place
invariant-loop-place g l =
    IsPlainFormatter l.initial.f → HasWritten g.W.Write.write_str_gives l.initial.f (marked_text 1 (take l.place l.fn.self.0.now)) l.f
