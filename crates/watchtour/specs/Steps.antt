-- The calls that the steps of a plan stand for.
use Rattle.std.specs.Prelude.{◌≡◌, List, [], ◌∷◌, vec_items}
use Rattle.costs.specs.Plain.{plain_of, plain_kind}
use Rattle.costs.specs.declared.plain.Plain.{Plain}
use Rattle.judge.specs.Sheets.{sheet_lists, blank}
use Rattle.judge.specs.declared.sheet.Sheet.{Sheet}
use Rattle.watch.specs.declared.call.Call.{Call}
use Rattle.watch.specs.declared.call.Call.TheVariants.{Feed as Feeds, Pin as Pins, Unpin as Unpins, Bound as Bounds, Judge as Judges}
use Rattle.watchtour.specs.declared.calls.Step.{Step}
use Rattle.watchtour.specs.declared.calls.Step.TheVariants.{Feed, Pin, Unpin, Bound, Judge, JudgeShort}

-- a judge, and something of the lists that it is handed
abbrev pub Handing : (Sheet Plain → Type 0) → Call Plain → Type 0
Handing P (Feeds e) = ⊥
Handing P (Pins r c) = ⊥
Handing P (Unpins r) = ⊥
Handing P (Bounds bound) = ⊥
Handing P (Judges sheet) = P sheet

-- the call that a step stands for
abbrev pub StandsFor : Step → Call Plain → Type 0
StandsFor (Feed e) call = call ≡ Feeds e
StandsFor (Pin r c) call = call ≡ Pins r c
StandsFor (Unpin r) call = call ≡ Unpins r
StandsFor (Bound n) call = call ≡ Bounds (plain_of n)
StandsFor Judge call = Handing (λ sheet. sheet_lists sheet ≡ blank plain_kind) call
StandsFor JudgeShort call = Handing (λ sheet. vec_items sheet.marks ≡ []) call

-- step by step
abbrev pub AllStand : List Step → List (Call Plain) → Type 0
AllStand [] [] = Unit {0}
AllStand [] (call ∷ calls) = ⊥
AllStand (step ∷ steps) [] = ⊥
AllStand (step ∷ steps) (call ∷ calls) = StandsFor step call × AllStand steps calls
