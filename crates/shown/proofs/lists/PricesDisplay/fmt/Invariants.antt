use Rattle.std.proofs.Common.{take}
use Rattle.std.specs.Fmt.{HasWritten, IsPlainFormatter}
use Rattle.shown.specs.Text.{spaced, text_of}
use Rattle.shown.proofs.lists.PricesDisplay.fmt.Given as goal

-- the prices so far are written
abbrev pub invariant-loop-price : goal.invariant-loop-price
invariant-loop-price g l =
    IsPlainFormatter l.initial.f
    → HasWritten g.W.Write.write_str_gives l.initial.f (spaced (λ c. text_of (g.C.Parts.parts c)) (take l.price-index l.price-items)) l.f
