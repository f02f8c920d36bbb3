-- How costs, lists, answers and grades are printed.
use Rattle.std.specs.Prelude.{ℕ, ◌+◌, ◌-◌, ◌^◌, ◌==◌, List, [], ◌∷◌, ◌++◌, fold, take, ℤ, Some, None, Option, Ok, Err, Result, vec_items, codes, if◌then◌else◌}
use Rattle.std.specs.List.{flat_map}
use Rattle.std.specs.Fmt.{decimal, signed_decimal, styled_decimal, styled_signed_decimal, format_spec}
use Rattle.costs.specs.Kind.{Kind}
use Rattle.costs.specs.Pair.{pair_kind}
use Rattle.costs.specs.Plain.{plain_plus, plain_kind}
use Rattle.costs.specs.declared.plain.Plain.{Plain}
use Rattle.tables.specs.Refusals.{refusal_number}
use Rattle.tables.specs.Table.{Table, pair_at}
use Rattle.tables.specs.declared.grade.Grade.{Grade}
use Rattle.tables.specs.declared.grade.Grade.TheVariants.{Closed, Open}
use Rattle.tables.specs.declared.refusal.Refusal.{Refusal}
use Rattle.judge.specs.Renumbering.{up_to}
use Rattle.judge.specs.declared.sheet.Sheet.{Sheet}
use Rattle.judge.specs.declared.verdict.Verdict.{Verdict}
use Rattle.judge.specs.declared.verdict.Verdict.TheVariants.{Within, Over, None as Never}
use Rattle.shown.specs.declared.verdicts.Judged.{Judged}
use Rattle.shown.specs.declared.worked.Kinds.{Kinds}

-- one plain cost by itself, and two in parentheses
abbrev pub text_of : Plain × Option Plain → List ℕ
text_of (only, None) = signed_decimal only.value
text_of (first, Some second) = codes "(" ++ signed_decimal first.value ++ codes ", " ++ signed_decimal second.value ++ codes ")"

-- each value of a list after a space
abbrev pub spaced : {X : Type 0} → (X → List ℕ) → List X → List ℕ
spaced text xs = flat_map (λ x. codes " " ++ text x) xs

-- an event that is marked with 1, after a space
abbrev pub mark_text : ℕ → ℕ → List ℕ
mark_text e m = if m == 1 then codes " " ++ decimal e else []

-- all that are; the first mark is that of event e
abbrev pub marked_text : ℕ → List ℕ → List ℕ
marked_text e [] = []
marked_text e (m ∷ ms) = mark_text e m ++ marked_text (e + 1) ms

-- what a call that changes something answers
abbrev pub told_text : Result (Unit {0}) Refusal → List ℕ
told_text (Ok u) = codes " done"
told_text (Err e) = codes " refused with " ++ decimal (refusal_number e)

-- after a verdict with a cost: the renumbering, both price lists, and what the prices add up to, of events 1 to the size
abbrev pub found_text : {C : Type 0} → Kind C → (C → List ℕ) → ℕ → Sheet C → List ℕ
found_text k text size sheet =
    let events = take size (vec_items sheet.event_prices) in
    let numbers = take size (vec_items sheet.number_prices) in
    codes "\n  numbers" ++ (spaced decimal (take size (vec_items sheet.numbers))
    ++ (codes "\n  event prices" ++ (spaced text events
    ++ (codes "\n  number prices" ++ (spaced text numbers
    ++ (codes "\n  all prices add up to " ++ text (k.plus (fold k.plus k.zero events) (fold k.plus k.zero numbers))))))))

-- what a judge answers, with what its lists then hold
abbrev pub judged_text : {C : Type 0} → Kind C → (C → List ℕ) → Result (Verdict C) Refusal → ℕ → Sheet C → List ℕ
judged_text k text (Ok (Within c)) size sheet = codes " within " ++ (text c ++ found_text k text size sheet)
judged_text k text (Ok (Over c)) size sheet = codes " over " ++ (text c ++ found_text k text size sheet)
judged_text k text (Ok Never) size sheet = codes " none\n  marked events" ++ marked_text 1 (take size (vec_items sheet.marks))
judged_text k text (Err e) size sheet = told_text (Err e)

-- a whole number as `{:>3}` writes it, with spaces on the left up to three places, and a count
abbrev pub in_three : ℤ → List ℕ
in_three = styled_signed_decimal (format_spec 32 3 0 3 (2 ^ 64 - 1))

abbrev pub count_in_three : ℕ → List ℕ
count_in_three = styled_decimal (format_spec 32 3 0 3 (2 ^ 64 - 1))

-- a grade in three places: its cost on the right, or a dash
abbrev pub square_text : Grade Plain → List ℕ
square_text Closed = codes "  -"
square_text (Open c) = in_three c.value

-- the grades of one event with the numbers 1 to the size
abbrev pub row_text : Table Plain → ℕ → List ℕ
row_text t e = codes "event " ++ decimal e ++ flat_map (λ n. square_text (pair_at t e n)) (up_to t.size)

-- the numbers above the columns
abbrev pub above_text : ℕ → List ℕ
above_text size = codes "       " ++ flat_map count_in_three (up_to size)

-- the grades of all events, a row for each
abbrev pub grades_text : Table Plain → List ℕ
grades_text t =
    codes "grades of the window (a row for each event, a column for each number, - closed)\n"
    ++ above_text t.size
    ++ flat_map (λ e. codes "\n" ++ row_text t e) (up_to t.size)

-- one of two values: where a grade is closed, and by the cost where it is open
abbrev pub by_grade : {C X : Type 0} → Grade C → X → (C → X) → X
by_grade Closed x f = x
by_grade (Open c) x f = f c

-- what pairs of an event and a number cost, one by one up to a closed one, then together: the sum is that of the pairs before
abbrev pub priced_text : (ℕ → ℕ → Grade Plain) → Plain → List (ℕ × ℕ) → List ℕ
priced_text grade sum [] = codes "cost " ++ signed_decimal sum.value
priced_text grade sum (p ∷ ps) =
    codes "event " ++ (decimal p.0 ++ (codes " as " ++ (decimal p.1 ++ (codes ": "
    ++ by_grade (grade p.0 p.1) (codes "closed") (λ c. signed_decimal c.value ++ (codes "\n" ++ priced_text grade (plain_plus sum c) ps))))))

-- the same over plain costs
abbrev pub plain_judged : Judged Plain → List ℕ
plain_judged j = judged_text plain_kind (λ c. text_of (c, None)) j.answer j.size j.sheet

-- the worked window judged in each kind of table
abbrev pub kinds_text : Kinds → List ℕ
kinds_text kinds =
    codes "difference, delta 0, bound 6:" ++ (plain_judged kinds.difference
    ++ (codes "\nmismatch, bound 3:" ++ (plain_judged kinds.mismatch
    ++ (codes "\nmixed, delta 4, bound (4, 0):"
    ++ judged_text (pair_kind plain_kind plain_kind) (λ c. text_of (c.first, Some c.second)) kinds.mixed.answer kinds.mixed.size kinds.mixed.sheet))))
