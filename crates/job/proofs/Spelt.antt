-- A text that is accepted spells the job.
use Rattle.std.proofs.Common.{◌≡◌, ℕ, zero, suc, ◌-◌, ◌*◌, ◌≤◌, true, leb, List, [], ◌∷◌, ◌++◌, map, length, Ok, Err, decimal, Option, Result, sym, refl, ap, ◌∙◌, subst, append_assoc, append-nil, arith}
use Rattle.std.specs.List.{AllByRecursion}
use Rattle.std.proofs.lemmas.Bool.{and_parts, leb-true}
use Rattle.tables.specs.Pins.{pin_answer}
use Rattle.tables.specs.Table.{Within, within}
use Rattle.job.specs.Limits.{max_number}
use Rattle.job.specs.Faults.{finding}
use Rattle.job.specs.Runs.{Run}
use Rattle.job.specs.Content.{Content, laid, add_pin, add_trace, add_event}
use Rattle.job.specs.Words.{title_word, coming}
use Rattle.job.specs.States.{State, state}
use Rattle.job.specs.Taking.{is_count, count_fault, number_step, pin_step}
use Rattle.job.specs.Reading.{walk}
use Rattle.job.specs.Spelling.{by_turns, Accepted}
use Rattle.job.specs.declared.accepted.Pin.{Pin}
use Rattle.job.specs.declared.expected.Section.{Section}
use Rattle.job.specs.declared.expected.Section.TheVariants.{Pins, Trace, Log}
use Rattle.job.specs.declared.expected.Expected.{Expected}
use Rattle.job.specs.declared.expected.Expected.TheVariants.{Title, Count, Number, PinNumber, End}
use Rattle.job.proofs.Leading.{coming_suc, content}
use Rattle.job.proofs.Taken.{laid_push}
use Rattle.job.proofs.Unreading.{ok_same, ok_if, number_inv, title_inv, Solid, went}

abbrev pub bytes_of : List Run → List (List ℕ)
bytes_of rs = map (λ (r : Run). r.bytes) rs

-- the walk goes on to the job j
abbrev pub Ends : Expected → Content → List Run → Content → Type 0
Ends e c rs j = walk (state e c) rs ≡ Ok (state End j)

-- one more run in front
pub more : (rs : List Run) (r : Run) (rest : List Run) (w : List ℕ) → rs ≡ r ∷ rest → r.bytes ≡ w → bytes_of rs ≡ w ∷ bytes_of rest
more rs r rest w e q = ap bytes_of e ∙ ap (λ (b : List ℕ). b ∷ bytes_of rest) q

abbrev pub Counted : Section → Content → List Run → Content → Type 0
Counted section c rs j = (n : ℕ) × (rest : List Run) × (bytes_of rs ≡ title_word section ∷ decimal n ∷ bytes_of rest) × (is_count section c.kind n ≡ true) × Solid rest × Ends (coming section n) c rest j

pub section_inv : (section : Section) (c : Content) (rs : List Run) (j : Content) → Solid rs → Ends (Title section) c rs j → Counted section c rs j
section_inv section c rs j a ok =
    let w = went (state (Title section) c) rs j (λ (q : Title section ≡ End). cc) a ok in
    let t = title_inv section c w.0 w.2 w.6 in
    let v = went (state (Count section) c) w.1 j (λ (q : Count section ≡ End). cc) w.5 (ap (λ (x : State). walk x w.1) t.1 ∙ w.7) in
    let n = number_inv (Count section) c v.0 v.2 v.4 refl v.6 in
    let k = ok_if (is_count section c.kind n.0) (state (coming section n.0) c) v.2 (finding (count_fault section) v.0.place) n.3 in (
      n.0,
      v.1,
      more rs w.0 w.1 (title_word section) w.3 t.0 ∙ ap (λ (ws : List (List ℕ)). title_word section ∷ ws) (more w.1 v.0 v.1 (decimal n.0) v.3 n.1),
      k.0,
      v.5,
      ap (λ (x : State). walk x v.1) k.1 ∙ v.7,
    )

pub one_inv : (section : Section) (k : ℕ) (c : Content) (rs : List Run) (j : Content) → Solid rs → Ends (coming section (suc k)) c rs j → (n : ℕ) × (p : ℕ) × (t : State) × (rest : List Run) × (bytes_of rs ≡ decimal n ∷ bytes_of rest) × (n ≤ max_number) × (number_step section k c n p ≡ Ok t) × Solid rest × (walk t rest ≡ Ok (state End j))
one_inv section k c rs j a ok =
    let w = went (state (Number section k) c) rs j (λ (q : Number section k ≡ End). cc) a (ap (λ (e : Expected). walk (state e c) rs) (sym (coming_suc section k)) ∙ ok) in
    let n = number_inv (Number section k) c w.0 w.2 w.4 refl w.6 in
    (n.0, w.0.place, w.2, w.1, more rs w.0 w.1 (decimal n.0) w.3 n.1, n.2, n.3, w.5, w.7)

pub within_to : (s n : ℕ) → within s n ≡ true → Within s n
within_to s n e = let both = and_parts (leb 1 n) (leb n s) e in (leb-true 1 n both.0, leb-true n s both.1)

abbrev pub Traced : ℕ → Content → List Run → Content → Type 0
Traced n c rs j = (ns : List ℕ) × (rest : List Run) × (length ns ≡ n) × AllByRecursion (Within c.size) ns × (bytes_of rs ≡ map decimal ns ++ bytes_of rest) × Solid rest × Ends (Title Log) (content c.kind c.size c.pins (c.trace ++ ns) c.log) rest j

pub trace_inv : (n : ℕ) (c : Content) (rs : List Run) (j : Content) → Solid rs → Ends (coming Trace n) c rs j → Traced n c rs j
trace_inv zero c rs j a ok = ([], rs, refl, tt, refl, a, ap (λ (ts : List ℕ). walk (state (Title Log) (content c.kind c.size c.pins ts c.log)) rs) (append-nil c.trace) ∙ ok)
trace_inv (suc k) c rs j a ok =
    let o = one_inv Trace k c rs j a ok in
    let y = ok_if (within c.size o.0) (state (coming Trace k) (add_trace c o.0)) o.2 (finding 7 o.1) o.6 in
    let z = trace_inv k (add_trace c o.0) o.3 j o.7 (ap (λ (x : State). walk x o.3) y.1 ∙ o.8) in (
      o.0 ∷ z.0,
      z.1,
      ap suc z.2,
      (within_to c.size o.0 y.0, z.3),
      o.4 ∙ ap (λ (ws : List (List ℕ)). decimal o.0 ∷ ws) z.4,
      z.5,
      ap (λ (ts : List ℕ). walk (state (Title Log) (content c.kind c.size c.pins ts c.log)) z.1) (sym (append_assoc c.trace (o.0 ∷ []) z.0)) ∙ z.6,
    )

abbrev pub Logged : ℕ → Content → List Run → Content → Type 0
Logged n c rs j = (ns : List ℕ) × (rest : List Run) × (length ns ≡ n) × AllByRecursion (Within c.size) ns × (bytes_of rs ≡ map decimal ns ++ bytes_of rest) × Solid rest × Ends End (content c.kind c.size c.pins c.trace (c.log ++ ns)) rest j

pub log_inv : (n : ℕ) (c : Content) (rs : List Run) (j : Content) → Solid rs → Ends (coming Log n) c rs j → Logged n c rs j
log_inv zero c rs j a ok = ([], rs, refl, tt, refl, a, ap (λ (ts : List ℕ). walk (state End (content c.kind c.size c.pins c.trace ts)) rs) (append-nil c.log) ∙ ok)
log_inv (suc k) c rs j a ok =
    let o = one_inv Log k c rs j a ok in
    let y = ok_if (within c.size o.0) (state (coming Log k) (add_event c o.0)) o.2 (finding 5 o.1) o.6 in
    let z = log_inv k (add_event c o.0) o.3 j o.7 (ap (λ (x : State). walk x o.3) y.1 ∙ o.8) in (
      o.0 ∷ z.0,
      z.1,
      ap suc z.2,
      (within_to c.size o.0 y.0, z.3),
      o.4 ∙ ap (λ (ws : List (List ℕ)). decimal o.0 ∷ ws) z.4,
      z.5,
      ap (λ (ts : List ℕ). walk (state End (content c.kind c.size c.pins c.trace ts)) z.1) (sym (append_assoc c.log (o.0 ∷ []) z.0)) ∙ z.6,
    )

pin_ok : (k e p : ℕ) (c : Content) (n : ℕ) (t : State) (x : Result (Unit {0}) ℕ) → pin_step k e p c n x ≡ Ok t → (x ≡ Ok tt) × (state (coming Pins (k - 1)) (add_pin c e n) ≡ t)
pin_ok k e p c n t (Ok u) ok = (refl, cc)
pin_ok k e p c n t (Err f) ok = cc

two_more : (x y k n : ℕ) → k ≡ suc y → n ≡ suc k → x ≡ k - 1 → suc (suc x) ≡ n
two_more x y k n e q h = omega arith

-- the second number of a pin
abbrev Second : ℕ → ℕ → Content → List Run → Content → Type 0
Second k e c rs j = (n : ℕ) × (rest : List Run) × (bytes_of rs ≡ decimal n ∷ bytes_of rest) × (pin_answer c.size (laid c.size c.pins) e n ≡ Ok tt) × Solid rest × Ends (coming Pins (k - 1)) (add_pin c e n) rest j

second_inv : (k e p : ℕ) (c : Content) (rs : List Run) (j : Content) → Solid rs → Ends (PinNumber k e p) c rs j → Second k e c rs j
second_inv k e p c rs j a ok =
    let w = went (state (PinNumber k e p) c) rs j (λ (q : PinNumber k e p ≡ End). cc) a ok in
    let v = number_inv (PinNumber k e p) c w.0 w.2 w.4 refl w.6 in
    let pin = pin_ok k e p c v.0 w.2 (pin_answer c.size (laid c.size c.pins) e v.0) v.3 in
    (v.0, w.1, more rs w.0 w.1 (decimal v.0) w.3 v.1, pin.0, w.5, ap (λ (x : State). walk x w.1) pin.1 ∙ w.7)

-- a whole pin
abbrev Pair : ℕ → Content → List Run → Content → Type 0
Pair k c rs j = (e : ℕ) × (n : ℕ) × (rest : List Run) × (bytes_of rs ≡ decimal e ∷ decimal n ∷ bytes_of rest) × (pin_answer c.size (laid c.size c.pins) e n ≡ Ok tt) × Solid rest × Ends (coming Pins (k - 1)) (add_pin c e n) rest j

pair_on : (k e : ℕ) (c : Content) (rs first : List Run) (j : Content) → bytes_of rs ≡ decimal e ∷ bytes_of first → Second k e c first j → Pair k c rs j
pair_on k e c rs first j b v = (e, v.0, v.1, b ∙ ap (λ (ws : List (List ℕ)). decimal e ∷ ws) v.2, v.3, v.4, v.5)

pair_inv : (k : ℕ) (c : Content) (rs : List Run) (j : Content) → Solid rs → Ends (coming Pins (suc k)) c rs j → Pair k c rs j
pair_inv k c rs j a ok =
    let o = one_inv Pins k c rs j a ok in
    pair_on k o.0 c rs o.3 j o.4 (second_inv k o.0 o.1 c o.3 j o.7 (ap (λ (x : State). walk x o.3) (ok_same (state (PinNumber k o.0 o.1) c) o.2 o.6) ∙ o.8))

abbrev pub Pinned : ℕ → Content → List Run → Content → Type 0
Pinned n c rs j = (ps : List Pin) × (rest : List Run) × (length (by_turns ps) ≡ n) × Accepted c.size (laid c.size c.pins) ps × (bytes_of rs ≡ map decimal (by_turns ps) ++ bytes_of rest) × Solid rest × Ends (Title Trace) (content c.kind c.size (c.pins ++ ps) c.trace c.log) rest j

pinned_more : (y k n : ℕ) (c : Content) (rs : List Run) (j : Content) → k ≡ suc y → n ≡ suc k → (v : Pair k c rs j) → Pinned (k - 1) (add_pin c v.0 v.1) v.2 j → Pinned n c rs j
pinned_more y k n c rs j odd two v z = (
  record { event = v.0; number = v.1 } ∷ z.0,
  z.1,
  two_more (length (by_turns z.0)) y k n odd two z.2,
  (v.4, subst (λ (f : ℕ → Option ℕ). Accepted c.size f z.0) (laid_push c.size c.pins (record { event = v.0; number = v.1 })) z.3),
  v.3 ∙ ap (λ (ws : List (List ℕ)). decimal v.0 ∷ decimal v.1 ∷ ws) z.4,
  z.5,
  ap (λ (qs : List Pin). walk (state (Title Trace) (content c.kind c.size qs c.trace c.log)) z.1) (sym (append_assoc c.pins (record { event = v.0; number = v.1 } ∷ []) z.0)) ∙ z.6,
)

pinned_on : (y k n : ℕ) (c : Content) (rs : List Run) (j : Content) → k ≡ suc y → n ≡ suc k → (v : Pair k c rs j) → ((c' : Content) (rs' : List Run) → Solid rs' → Ends (coming Pins (k - 1)) c' rs' j → Pinned (k - 1) c' rs' j) → Pinned n c rs j
pinned_on y k n c rs j odd two v go = pinned_more y k n c rs j odd two v (go (add_pin c v.0 v.1) v.2 v.5 v.6)

pub pins_inv : (m n : ℕ) → n ≡ 2 * m → (c : Content) (rs : List Run) (j : Content) → Solid rs → Ends (coming Pins n) c rs j → Pinned n c rs j
pins_inv zero n e c rs j a ok =
    ([], rs, sym e, tt, refl, a, ap (λ (qs : List Pin). walk (state (Title Trace) (content c.kind c.size qs c.trace c.log)) rs) (append-nil c.pins) ∙ ap (λ k. walk (state (coming Pins k) c) rs) (sym e) ∙ ok)
pins_inv (suc m) n e c rs j a ok =
    let two : n ≡ suc (suc (2 * m)) = omega arith in
    pinned_on (2 * m) (suc (2 * m)) n c rs j refl two
    (pair_inv (suc (2 * m)) c rs j a (ap (λ i. walk (state (coming Pins i) c) rs) (sym two) ∙ ok))
    (λ c' rs' a' ok'. pins_inv m (suc (2 * m) - 1) (omega arith) c' rs' j a' ok')
