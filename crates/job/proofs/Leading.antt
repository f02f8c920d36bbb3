-- Runs that spell a part of a job lead from one state to the next.
use Rattle.std.proofs.Common.{◌≡◌, ℕ, suc, ◌≤◌, Bool, true, false, cond, ◌&&◌, ltb, List, [], ◌∷◌, ◌++◌, map, length, Ok, Err, decimal, Option, Result, sym, refl, ap, ◌∙◌, subst, append_assoc, append-nil, arith}
use Rattle.std.specs.List.{AllByRecursion}
use Rattle.std.proofs.lemmas.Slice.Eq.{bytes_eq-Decides}
use Rattle.std.proofs.lemmas.Bool.{cond-true, cond-false, ne_eqb, le-ltb, le-leb, and_from}
use Rattle.std.proofs.lemmas.Bool.Decides.{nat_tests}
use Rattle.tables.specs.Limits.{max_size, max_delta}
use Rattle.tables.specs.Pins.{pin_answer}
use Rattle.tables.specs.Table.{Within, within}
use Rattle.job.specs.Limits.{max_number}
use Rattle.job.specs.Faults.{Finding}
use Rattle.job.specs.Runs.{Run, run_at, sort}
use Rattle.job.specs.Content.{Content, bounds_of, laid, with_kind, with_size, add_pin, add_trace, add_event}
use Rattle.job.specs.Words.{kind_word, title_word, coming}
use Rattle.job.specs.States.{State, state}
use Rattle.job.specs.Taking.{is_count, number_step, pin_step}
use Rattle.job.specs.Steps.{sort_step, step}
use Rattle.job.specs.Reading.{by_answer, walk}
use Rattle.job.specs.Spelling.{section_runs, by_turns, delta_of, Accepted}
use Rattle.job.specs.declared.accepted.Kind.{Kind}
use Rattle.job.specs.declared.accepted.Kind.TheVariants.{Mismatch, Difference, Mixed}
use Rattle.job.specs.declared.accepted.Pin.{Pin}
use Rattle.job.specs.declared.expected.Section.{Section}
use Rattle.job.specs.declared.expected.Section.TheVariants.{Size, Bounds, Pins, Trace, Log}
use Rattle.job.specs.declared.expected.Expected.{Expected}
use Rattle.job.specs.declared.tokens.Sort.TheVariants.{Letter}
use Rattle.job.specs.declared.expected.Expected.TheVariants.{KindWord, Title, Count, Number, PinNumber, End}
use Rattle.job.proofs.Decimal.{number_run}
use Rattle.job.proofs.Taken.{laid_push}

-- runs of those bytes, wherever they stand, lead from s to u
abbrev pub Reads : State → List (List ℕ) → State → Type 0
Reads s ws u = (rs : List Run) → map (λ (r : Run). r.bytes) rs ≡ ws → walk s rs ≡ Ok u

pub reads_none : (s : State) → Reads s [] s
reads_none s [] e = refl
reads_none s (r ∷ rs) e = absurd (omega (arith, ap length e))

pub reads_cons : (s : State) (w : List ℕ) (ws : List (List ℕ)) (t : ℕ → State) (u : State) → ((p : ℕ) → step s (run_at p w) ≡ Ok (t p)) → ((p : ℕ) → Reads (t p) ws u) → Reads s (w ∷ ws) u
reads_cons s w ws t u goes on [] e = absurd (omega (arith, ap length e))
reads_cons s w ws t u goes on (r ∷ rs) e =
    let first : r.bytes ≡ w = cc in
    let rest : map (λ (x : Run). x.bytes) rs ≡ ws = cc in
    ap (λ (a : Result State Finding). by_answer a (λ x. walk x rs) (λ f. Err f)) (ap (λ (bs : List ℕ). step s (run_at r.place bs)) first ∙ goes r.place)
    ∙ on r.place rs rest

pub coming_suc : (section : Section) (k : ℕ) → coming section (suc k) ≡ Number section k
coming_suc section k = cond-false _ _ _ (ne_eqb (suc k) 0 (λ (q : suc k ≡ 0). omega arith)) ∙ ap (Number section) (omega arith)

title_sort : (section : Section) (p : ℕ) → sort (run_at p (title_word section)) ≡ Ok Letter
title_sort Size p = refl
title_sort Bounds p = refl
title_sort Pins p = refl
title_sort Trace p = refl
title_sort Log p = refl

title_run : (section : Section) (c : Content) (p : ℕ) → step (state (Title section) c) (run_at p (title_word section)) ≡ Ok (state (Count section) c)
title_run section c p =
    ap (sort_step (state (Title section) c) (run_at p (title_word section))) (title_sort section p)
    ∙ cond-true _ _ _ ((bytes_eq-Decides (title_word section) (title_word section)).1 refl)

-- a section's word and count
pub reads_section : (section : Section) (c : Content) (ns : List ℕ) (ws : List (List ℕ)) (u : State) → is_count section c.kind (length ns) ≡ true → length ns ≤ max_number → Reads (state (coming section (length ns)) c) (map decimal ns ++ ws) u → Reads (state (Title section) c) (section_runs section ns ++ ws) u
reads_section section c ns ws u ok small on =
    reads_cons (state (Title section) c) (title_word section) (decimal (length ns) ∷ (map decimal ns ++ ws)) (λ _. state (Count section) c) u (title_run section c)
    (λ _. reads_cons (state (Count section) c) (decimal (length ns)) (map decimal ns ++ ws) (λ _. state (coming section (length ns)) c) u
    (λ p. number_run (length ns) small (Count section) c p refl ∙ cond-true _ _ _ ok) (λ _. on))

-- one number of a section
reads_one : (section : Section) (k : ℕ) (c d : Content) (n : ℕ) (ws : List (List ℕ)) (u : State) → n ≤ max_number → ((p : ℕ) → number_step section k c n p ≡ Ok (state (coming section k) d)) → Reads (state (coming section k) d) ws u → Reads (state (coming section (suc k)) c) (decimal n ∷ ws) u
reads_one section k c d n ws u small goes on =
    subst (λ (e : Expected). Reads (state e c) (decimal n ∷ ws) u) (sym (coming_suc section k))
    (reads_cons (state (Number section k) c) (decimal n) ws (λ _. state (coming section k) d) u (λ p. number_run n small (Number section k) c p refl ∙ goes p) (λ _. on))

within_from : (s n : ℕ) → Within s n → within s n ≡ true
within_from s n w = and_from _ _ (le-leb 1 n w.0) (le-leb n s w.1)

pub reads_trace : (ns : List ℕ) (c : Content) (ws : List (List ℕ)) (u : State) → c.size ≤ max_size → AllByRecursion (Within c.size) ns → Reads (state (Title Log) (record { kind = c.kind; size = c.size; pins = c.pins; trace = c.trace ++ ns; log = c.log })) ws u → Reads (state (coming Trace (length ns)) c) (map decimal ns ++ ws) u
reads_trace [] c ws u h a on = subst (λ (ts : List ℕ). Reads (state (Title Log) (record { kind = c.kind; size = c.size; pins = c.pins; trace = ts; log = c.log })) ws u) (append-nil c.trace) on
reads_trace (n ∷ ns) c ws u h a on =
    reads_one Trace (length ns) c (add_trace c n) n (map decimal ns ++ ws) u (omega (arith, a.0.1)) (λ p. cond-true _ _ _ (within_from c.size n a.0))
    (reads_trace ns (add_trace c n) ws u h a.1
    (subst (λ (ts : List ℕ). Reads (state (Title Log) (record { kind = c.kind; size = c.size; pins = c.pins; trace = ts; log = c.log })) ws u) (sym (append_assoc c.trace (n ∷ []) ns)) on))

pub reads_log : (ns : List ℕ) (c : Content) (ws : List (List ℕ)) (u : State) → c.size ≤ max_size → AllByRecursion (Within c.size) ns → Reads (state End (record { kind = c.kind; size = c.size; pins = c.pins; trace = c.trace; log = c.log ++ ns })) ws u → Reads (state (coming Log (length ns)) c) (map decimal ns ++ ws) u
reads_log [] c ws u h a on = subst (λ (ts : List ℕ). Reads (state End (record { kind = c.kind; size = c.size; pins = c.pins; trace = c.trace; log = ts })) ws u) (append-nil c.log) on
reads_log (n ∷ ns) c ws u h a on =
    reads_one Log (length ns) c (add_event c n) n (map decimal ns ++ ws) u (omega (arith, a.0.1)) (λ p. cond-true _ _ _ (within_from c.size n a.0))
    (reads_log ns (add_event c n) ws u h a.1
    (subst (λ (ts : List ℕ). Reads (state End (record { kind = c.kind; size = c.size; pins = c.pins; trace = c.trace; log = ts })) ws u) (sym (append_assoc c.log (n ∷ []) ns)) on))

-- what a pin that is accepted tells of its numbers
pin_small_by : (b : Bool) (x : Result (Unit {0}) ℕ) → cond b x (Err 10) ≡ Ok tt → b ≡ true
pin_small_by true x e = refl
pin_small_by false x e = cc

pub pin_small : (s : ℕ) (pins : ℕ → Option ℕ) (e n : ℕ) → pin_answer s pins e n ≡ Ok tt → s ≤ max_size → (e ≤ max_number) × (n ≤ max_number)
pin_small s pins e n ok h =
    let both : (within s e && within s n) ≡ true = pin_small_by _ _ ok in
    (grind (arith, nat_tests), grind (arith, nat_tests))

pub reads_pins : (ps : List Pin) (c : Content) (ws : List (List ℕ)) (u : State) → c.size ≤ max_size → Accepted c.size (laid c.size c.pins) ps → Reads (state (Title Trace) (record { kind = c.kind; size = c.size; pins = c.pins ++ ps; trace = c.trace; log = c.log })) ws u → Reads (state (coming Pins (length (by_turns ps))) c) (map decimal (by_turns ps) ++ ws) u
reads_pins [] c ws u h a on = subst (λ (qs : List Pin). Reads (state (Title Trace) (record { kind = c.kind; size = c.size; pins = qs; trace = c.trace; log = c.log })) ws u) (append-nil c.pins) on
reads_pins (q ∷ ps) c ws u h a on =
    let k = length (by_turns ps) in
    let small = pin_small c.size (laid c.size c.pins) q.event q.number a.0 h in
    let after : Reads (state (coming Pins k) (add_pin c q.event q.number)) (map decimal (by_turns ps) ++ ws) u =
    reads_pins ps (add_pin c q.event q.number) ws u h
    (subst (λ (f : ℕ → Option ℕ). Accepted c.size f ps) (sym (laid_push c.size c.pins q)) a.1)
    (subst (λ (qs : List Pin). Reads (state (Title Trace) (record { kind = c.kind; size = c.size; pins = qs; trace = c.trace; log = c.log })) ws u) (sym (append_assoc c.pins (q ∷ []) ps)) on) in
    subst (λ (e : Expected). Reads (state e c) (decimal q.event ∷ decimal q.number ∷ (map decimal (by_turns ps) ++ ws)) u) (sym (coming_suc Pins (suc k)))
    (reads_cons (state (Number Pins (suc k)) c) (decimal q.event) (decimal q.number ∷ (map decimal (by_turns ps) ++ ws)) (λ p. state (PinNumber (suc k) q.event p) c) u
    (λ p. number_run q.event small.0 (Number Pins (suc k)) c p refl)
    (λ p. reads_cons (state (PinNumber (suc k) q.event p) c) (decimal q.number) (map decimal (by_turns ps) ++ ws) (λ _. state (coming Pins k) (add_pin c q.event q.number)) u
    (λ p'. number_run q.number small.1 (PinNumber (suc k) q.event p) c p' refl
    ∙ ap (pin_step (suc k) q.event p c q.number) a.0
    ∙ ap (λ j. Ok (state (coming Pins j) (add_pin c q.event q.number))) (omega arith))
    (λ _. after)))

-- delta and the bound
abbrev pub empty_kind : Kind → Kind
empty_kind (Mismatch bound) = Mismatch 0
empty_kind (Difference delta bound) = Difference 0 0
empty_kind (Mixed delta first second) = Mixed 0 0 0

kind_run : (k : Kind) (c : Content) (p : ℕ) → step (state KindWord c) (run_at p (kind_word k)) ≡ Ok (state (Title Size) (with_kind c (empty_kind k)))
kind_run (Mismatch bound) c p = refl
kind_run (Difference delta bound) c p = refl
kind_run (Mixed delta first second) c p = refl

pub reads_kind : (k : Kind) (c : Content) (ws : List (List ℕ)) (u : State) → Reads (state (Title Size) (with_kind c (empty_kind k))) ws u → Reads (state KindWord c) (kind_word k ∷ ws) u
reads_kind k c ws u on = reads_cons (state KindWord c) (kind_word k) ws (λ _. state (Title Size) (with_kind c (empty_kind k))) u (kind_run k c) (λ _. on)

pub reads_size : (s : ℕ) (c : Content) (ws : List (List ℕ)) (u : State) → Within max_size s → Reads (state (Title Bounds) (with_size c s)) ws u → Reads (state (coming Size 1) c) (decimal s ∷ ws) u
reads_size s c ws u w on = reads_one Size 0 c (with_size c s) s ws u (omega (arith, w.1)) (λ p. cond-true _ _ _ (within_from max_size s w)) on

small_delta : (d : ℕ) → d ≤ max_delta → (true && ltb max_delta d) ≡ false
small_delta d h = le-ltb max_delta d h

abbrev pub content : Kind → ℕ → List Pin → List ℕ → List ℕ → Content
content k s ps ts ls = record { kind = k; size = s; pins = ps; trace = ts; log = ls }

pub reads_bounds : (k : Kind) (s : ℕ) (ps : List Pin) (ts ls : List ℕ) (ws : List (List ℕ)) (u : State) → delta_of k ≤ max_delta → AllByRecursion (λ n. n ≤ max_number) (bounds_of k) → Reads (state (Title Pins) (content k s ps ts ls)) ws u → Reads (state (Title Bounds) (content (empty_kind k) s ps ts ls)) (section_runs Bounds (bounds_of k) ++ ws) u
reads_bounds (Mismatch b) s ps ts ls ws u d a on =
    reads_section Bounds (content (Mismatch 0) s ps ts ls) (b ∷ []) ws u refl (omega arith)
    (reads_one Bounds 0 (content (Mismatch 0) s ps ts ls) (content (Mismatch b) s ps ts ls) b ws u a.0 (λ p. refl) on)
reads_bounds (Difference x b) s ps ts ls ws u d a on =
    reads_section Bounds (content (Difference 0 0) s ps ts ls) (x ∷ b ∷ []) ws u refl (omega arith)
    (reads_one Bounds 1 (content (Difference 0 0) s ps ts ls) (content (Difference x 0) s ps ts ls) x (decimal b ∷ ws) u a.0 (λ p. cond-false _ _ _ (small_delta x d))
    (reads_one Bounds 0 (content (Difference x 0) s ps ts ls) (content (Difference x b) s ps ts ls) b ws u a.1.0 (λ p. refl) on))
reads_bounds (Mixed x y z) s ps ts ls ws u d a on =
    reads_section Bounds (content (Mixed 0 0 0) s ps ts ls) (x ∷ y ∷ z ∷ []) ws u refl (omega arith)
    (reads_one Bounds 2 (content (Mixed 0 0 0) s ps ts ls) (content (Mixed x 0 0) s ps ts ls) x (decimal y ∷ decimal z ∷ ws) u a.0 (λ p. cond-false _ _ _ (small_delta x d))
    (reads_one Bounds 1 (content (Mixed x 0 0) s ps ts ls) (content (Mixed x y 0) s ps ts ls) y (decimal z ∷ ws) u a.1.0 (λ p. refl)
    (reads_one Bounds 0 (content (Mixed x y 0) s ps ts ls) (content (Mixed x y z) s ps ts ls) z ws u a.1.1.0 (λ p. refl) on)))
