-- Only texts that spell a job are accepted.
use Rattle.std.proofs.Common.{◌≡◌, ℕ, ◌+◌, ◌*◌, ◌/◌, ◌%◌, ◌≤◌, Bool, true, false, cond, eqb, ltb, leb, List, [], ◌∷◌, ◌++◌, map, length, Ok, Err, decimal, Result, sym, refl, ap, ◌∙◌, subst, arith}
use native.Mathlib.Nat.{div-add-mod}
use Rattle.std.specs.List.{AllByRecursion}
use Rattle.std.proofs.lemmas.Bool.{leb-true, ltb-false, eqb-true}
use Rattle.tables.specs.Limits.{max_size, max_places, max_delta}
use Rattle.tables.specs.Pins.{no_pins}
use Rattle.tables.specs.Table.{Within, within}
use Rattle.job.specs.Limits.{max_text, max_number, max_pin_numbers, max_log}
use Rattle.job.specs.Faults.{Finding, finding}
use Rattle.job.specs.Runs.{Run, run_at, blank, front, runs_from, runs, sort}
use Rattle.job.specs.Content.{Content, bounds_of, with_size}
use Rattle.job.specs.Words.{kind_word, title_word, coming}
use Rattle.job.specs.States.{State, state, start}
use Rattle.job.specs.Steps.{sort_step}
use Rattle.job.specs.Reading.{by_answer, walk, ended, finish}
use Rattle.job.specs.Spelling.{section_runs, by_turns, spelled, delta_of, Accepted, Valid}
use Rattle.job.specs.Laws.{OnlyJobs}
use Rattle.job.specs.declared.accepted.Kind.{Kind}
use Rattle.job.specs.declared.accepted.Kind.TheVariants.{Mismatch, Difference, Mixed}
use Rattle.job.specs.declared.accepted.Pin.{Pin}
use Rattle.job.specs.declared.expected.Section.{Section}
use Rattle.job.specs.declared.expected.Section.TheVariants.{Size, Bounds, Pins, Trace, Log}
use Rattle.job.specs.declared.expected.Expected.{Expected}
use Rattle.job.specs.declared.tokens.Sort.{Sort}
use Rattle.job.specs.declared.tokens.Sort.TheVariants.{Letter, Digit}
use Rattle.job.specs.declared.expected.Expected.TheVariants.{KindWord, Title, Count, Number, PinNumber, End}
use Rattle.job.proofs.Leading.{content}
use Rattle.job.proofs.Unreading.{ok_same, ok_if, ok_unless, kind_inv, Solid, went}
use Rattle.job.proofs.Spelt.{bytes_of, Ends, more, within_to, Counted, section_inv, one_inv, Traced, trace_inv, Logged, log_inv, Pinned, pins_inv}

-- a section's title, count and numbers together
whole : (section : Section) (ns : List ℕ) (n : ℕ) (xs ys zs : List (List ℕ)) → xs ≡ title_word section ∷ decimal n ∷ ys → ys ≡ map decimal ns ++ zs → length ns ≡ n → xs ≡ section_runs section ns ++ zs
whole section ns n xs ys zs e q l =
    e ∙ ap (λ (ws : List (List ℕ)). title_word section ∷ decimal n ∷ ws) q ∙ ap (λ k. title_word section ∷ decimal k ∷ (map decimal ns ++ zs)) (sym l)

abbrev pub Bounded : Kind → ℕ → List Pin → List ℕ → List ℕ → List Run → Content → Type 0
Bounded k s ps ts ls rs j = (k' : Kind) × (rest : List Run) × (kind_word k ≡ kind_word k') × (delta_of k' ≤ max_delta) × AllByRecursion (λ n. n ≤ max_number) (bounds_of k') × (bytes_of rs ≡ section_runs Bounds (bounds_of k') ++ bytes_of rest) × Solid rest × Ends (Title Pins) (content k' s ps ts ls) rest j

pub bounds_inv : (k : Kind) (s : ℕ) (ps : List Pin) (ts ls : List ℕ) (rs : List Run) (j : Content) → Solid rs → Ends (Title Bounds) (content k s ps ts ls) rs j → Bounded k s ps ts ls rs j
bounds_inv (Mismatch b) s ps ts ls rs j a ok =
    let c = content (Mismatch b) s ps ts ls in
    let h = section_inv Bounds c rs j a ok in
    let one : h.0 ≡ 1 = eqb-true h.0 1 h.3 in
    let o = one_inv Bounds 0 c h.1 j h.4 (ap (λ i. walk (state (coming Bounds i) c) h.1) (sym one) ∙ h.5) in
    let d = content (Mismatch o.0) s ps ts ls in
    let next = ok_same (state (Title Pins) d) o.2 o.6 in
    (Mismatch o.0, o.3, refl, omega arith, (o.5, tt), whole Bounds (o.0 ∷ []) h.0 (bytes_of rs) (bytes_of h.1) (bytes_of o.3) h.2 o.4 (sym one), o.7, ap (λ (x : State). walk x o.3) next ∙ o.8)
bounds_inv (Difference d b) s ps ts ls rs j a ok =
    let c = content (Difference d b) s ps ts ls in
    let h = section_inv Bounds c rs j a ok in
    let two : h.0 ≡ 2 = eqb-true h.0 2 h.3 in
    let o = one_inv Bounds 1 c h.1 j h.4 (ap (λ i. walk (state (coming Bounds i) c) h.1) (sym two) ∙ h.5) in
    let c1 = content (Difference o.0 b) s ps ts ls in
    let y = ok_unless (ltb max_delta o.0) (state (Number Bounds 0) c1) o.2 (finding 8 o.1) o.6 in
    let p = one_inv Bounds 0 c1 o.3 j o.7 (ap (λ (x : State). walk x o.3) y.1 ∙ o.8) in
    let c2 = content (Difference o.0 p.0) s ps ts ls in
    let next = ok_same (state (Title Pins) c2) p.2 p.6 in (
      Difference o.0 p.0,
      p.3,
      refl,
      ltb-false max_delta o.0 y.0,
      (o.5, (p.5, tt)),
      whole Bounds (o.0 ∷ p.0 ∷ []) h.0 (bytes_of rs) (bytes_of h.1) (bytes_of p.3) h.2 (o.4 ∙ ap (λ (ws : List (List ℕ)). decimal o.0 ∷ ws) p.4) (sym two),
      p.7,
      ap (λ (x : State). walk x p.3) next ∙ p.8,
    )
bounds_inv (Mixed d f g) s ps ts ls rs j a ok =
    let c = content (Mixed d f g) s ps ts ls in
    let h = section_inv Bounds c rs j a ok in
    let three : h.0 ≡ 3 = eqb-true h.0 3 h.3 in
    let o = one_inv Bounds 2 c h.1 j h.4 (ap (λ i. walk (state (coming Bounds i) c) h.1) (sym three) ∙ h.5) in
    let c1 = content (Mixed o.0 f g) s ps ts ls in
    let y = ok_unless (ltb max_delta o.0) (state (Number Bounds 1) c1) o.2 (finding 8 o.1) o.6 in
    let p = one_inv Bounds 1 c1 o.3 j o.7 (ap (λ (x : State). walk x o.3) y.1 ∙ o.8) in
    let c2 = content (Mixed o.0 p.0 g) s ps ts ls in
    let second = ok_same (state (Number Bounds 0) c2) p.2 p.6 in
    let q = one_inv Bounds 0 c2 p.3 j p.7 (ap (λ (x : State). walk x p.3) second ∙ p.8) in
    let c3 = content (Mixed o.0 p.0 q.0) s ps ts ls in
    let next = ok_same (state (Title Pins) c3) q.2 q.6 in (
      Mixed o.0 p.0 q.0,
      q.3,
      refl,
      ltb-false max_delta o.0 y.0,
      (o.5, (p.5, (q.5, tt))),
      whole Bounds (o.0 ∷ p.0 ∷ q.0 ∷ []) h.0 (bytes_of rs) (bytes_of h.1) (bytes_of q.3) h.2 (o.4 ∙ ap (λ (ws : List (List ℕ)). decimal o.0 ∷ ws) (p.4 ∙ ap (λ (ws : List (List ℕ)). decimal p.0 ∷ ws) q.4)) (sym three),
      q.7,
      ap (λ (x : State). walk x q.3) next ∙ q.8,
    )

-- after the last section nothing more is taken
end_by : (c : Content) (r : Run) (rs : List Run) (u : State) {X : Type 0} (x : Result Sort ℕ) → by_answer (sort_step (state End c) r x) (λ t. walk t rs) (λ f. Err f) ≡ Ok u → X
end_by c r rs u (Ok Letter) e = cc
end_by c r rs u (Ok Digit) e = cc
end_by c r rs u (Err p) e = cc

end_inv : (c : Content) (rs : List Run) (j : Content) → Ends End c rs j → (bytes_of rs ≡ []) × (c ≡ j)
end_inv c [] j ok = (refl, ap (λ (s : State). s.content) (ok_same (state End c) (state End j) ok))
end_inv c (r ∷ rs) j ok = end_by c r rs (state End j) (sort r) ok

-- what an accepted text was read to
ended_inv : (len : ℕ) (e : Expected) (c j : Content) → ended len e c ≡ Ok j → state e c ≡ state End j
ended_inv len KindWord c j ok = cc
ended_inv len (Title section) c j ok = cc
ended_inv len (Count section) c j ok = cc
ended_inv len (Number section after) c j ok = cc
ended_inv len (PinNumber after event first) c j ok = cc
ended_inv len End c j ok = ap (state End) (ok_same c j ok)

read_inv : (len : ℕ) (b : Bool) (a : Result State Finding) (j : Content) → cond b (Err (finding 4 max_text)) (by_answer a (finish len) (λ f. Err f)) ≡ Ok j → (b ≡ false) × (a ≡ Ok (state End j))
read_inv len true a j ok = cc
read_inv len false (Ok s) j ok = (refl, ap Ok (ended_inv len s.expected s.content j ok))
read_inv len false (Err f) j ok = cc

-- no run is empty
solid_by : (b place : ℕ) (bs : List ℕ) (t inside : Bool) → ((i : Bool) → Solid (runs_from i (place + 1) bs)) → Solid (cond t (runs_from false (place + 1) bs) (cond inside (runs_from true (place + 1) bs) (run_at place (b ∷ front bs) ∷ runs_from true (place + 1) bs)))
solid_by b place bs true inside go = go false
solid_by b place bs false true go = go true
solid_by b place bs false false go = (omega arith, go true)

solid : (inside : Bool) (place : ℕ) (bs : List ℕ) → Solid (runs_from inside place bs)
solid inside place [] = tt
solid inside place (b ∷ bs) = solid_by b place bs (blank b) inside (λ i. solid i (place + 1) bs)

even_by : (n : ℕ) (b : Bool) → eqb (n % 2) 0 ≡ b → cond b (leb n max_pin_numbers) false ≡ true → (n ≡ 2 * (n / 2)) × (n ≤ max_pin_numbers)
even_by n true e ok = (let r = eqb-true (n % 2) 0 e in let d = div-add-mod n 2 in omega arith, leb-true n max_pin_numbers ok)
even_by n false e ok = cc

-- from each section on, what the rest of the runs tells of the job
abbrev FromLog : Kind → ℕ → List Pin → List ℕ → List Run → Content → Type 0
FromLog k s ps ts rs j = (bytes_of rs ≡ section_runs Log j.log ++ []) × (length j.log ≤ max_log) × AllByRecursion (Within s) j.log × (k ≡ j.kind) × (s ≡ j.size) × (ps ≡ j.pins) × (ts ≡ j.trace)

module _ (k : Kind) (s : ℕ) (ps : List Pin) (ts : List ℕ) (rs : List Run) (j : Content) where
  log_out : (h : Counted Log (content k s ps ts []) rs j) (n : Logged h.0 (content k s ps ts []) h.1 j) → (bytes_of n.1 ≡ []) × (content k s ps ts n.0 ≡ j) → FromLog k s ps ts rs j
  log_out h n e =
      subst (FromLog k s ps ts rs) e.1 (
        whole Log n.0 h.0 (bytes_of rs) (bytes_of h.1) [] h.2 (n.4 ∙ ap (λ (ws : List (List ℕ)). map decimal n.0 ++ ws) e.0) n.2,
        subst (λ i. i ≤ max_log) (sym n.2) (leb-true h.0 max_log h.3),
        n.3,
        refl,
        refl,
        refl,
        refl,
      )

  log_on : (h : Counted Log (content k s ps ts []) rs j) → Logged h.0 (content k s ps ts []) h.1 j → FromLog k s ps ts rs j
  log_on h n = log_out h n (end_inv (content k s ps ts n.0) n.1 j n.6)

  log_by : Counted Log (content k s ps ts []) rs j → FromLog k s ps ts rs j
  log_by h = log_on h (log_inv h.0 (content k s ps ts []) h.1 j h.4 h.5)

  from_log : Solid rs → Ends (Title Log) (content k s ps ts []) rs j → FromLog k s ps ts rs j
  from_log a ok = log_by (section_inv Log (content k s ps ts []) rs j a ok)

abbrev FromTrace : Kind → ℕ → List Pin → List Run → Content → Type 0
FromTrace k s ps rs j = (bytes_of rs ≡ section_runs Trace j.trace ++ (section_runs Log j.log ++ [])) × Within max_places (length j.trace) × AllByRecursion (Within s) j.trace × (length j.log ≤ max_log) × AllByRecursion (Within s) j.log × (k ≡ j.kind) × (s ≡ j.size) × (ps ≡ j.pins)

module _ (k : Kind) (s : ℕ) (ps : List Pin) (rs : List Run) (j : Content) where
  trace_out : (h : Counted Trace (content k s ps [] []) rs j) (m : Traced h.0 (content k s ps [] []) h.1 j) → FromLog k s ps m.0 m.1 j → FromTrace k s ps rs j
  trace_out h m x = (
    whole Trace m.0 h.0 (bytes_of rs) (bytes_of h.1) (bytes_of m.1) h.2 m.4 m.2 ∙ ap (λ (ts : List ℕ). section_runs Trace ts ++ bytes_of m.1) x.6 ∙ ap (λ (ws : List (List ℕ)). section_runs Trace j.trace ++ ws) x.0,
    subst (λ (ts : List ℕ). Within max_places (length ts)) x.6 (subst (Within max_places) (sym m.2) (within_to max_places h.0 h.3)),
    subst (AllByRecursion (Within s)) x.6 m.3,
    x.1,
    x.2,
    x.3,
    x.4,
    x.5,
  )

  trace_on : (h : Counted Trace (content k s ps [] []) rs j) → Traced h.0 (content k s ps [] []) h.1 j → FromTrace k s ps rs j
  trace_on h m = trace_out h m (from_log k s ps m.0 m.1 j m.5 m.6)

  trace_by : Counted Trace (content k s ps [] []) rs j → FromTrace k s ps rs j
  trace_by h = trace_on h (trace_inv h.0 (content k s ps [] []) h.1 j h.4 h.5)

  from_trace : Solid rs → Ends (Title Trace) (content k s ps [] []) rs j → FromTrace k s ps rs j
  from_trace a ok = trace_by (section_inv Trace (content k s ps [] []) rs j a ok)

abbrev FromPins : Kind → ℕ → List Run → Content → Type 0
FromPins k s rs j = (bytes_of rs ≡ section_runs Pins (by_turns j.pins) ++ (section_runs Trace j.trace ++ (section_runs Log j.log ++ []))) × (length (by_turns j.pins) ≤ max_pin_numbers) × Accepted s no_pins j.pins × Within max_places (length j.trace) × AllByRecursion (Within s) j.trace × (length j.log ≤ max_log) × AllByRecursion (Within s) j.log × (k ≡ j.kind) × (s ≡ j.size)

module _ (k : Kind) (s : ℕ) (rs : List Run) (j : Content) where
  pins_out : (h : Counted Pins (content k s [] [] []) rs j) (m : Pinned h.0 (content k s [] [] []) h.1 j) → h.0 ≤ max_pin_numbers → FromTrace k s m.0 m.1 j → FromPins k s rs j
  pins_out h m few x = (
    whole Pins (by_turns m.0) h.0 (bytes_of rs) (bytes_of h.1) (bytes_of m.1) h.2 m.4 m.2 ∙ ap (λ (ps : List Pin). section_runs Pins (by_turns ps) ++ bytes_of m.1) x.7 ∙ ap (λ (ws : List (List ℕ)). section_runs Pins (by_turns j.pins) ++ ws) x.0,
    subst (λ (ps : List Pin). length (by_turns ps) ≤ max_pin_numbers) x.7 (subst (λ i. i ≤ max_pin_numbers) (sym m.2) few),
    subst (Accepted s no_pins) x.7 m.3,
    x.1,
    x.2,
    x.3,
    x.4,
    x.5,
    x.6,
  )

  pins_on : (h : Counted Pins (content k s [] [] []) rs j) → Pinned h.0 (content k s [] [] []) h.1 j → h.0 ≤ max_pin_numbers → FromPins k s rs j
  pins_on h m few = pins_out h m few (from_trace k s m.0 m.1 j m.5 m.6)

  pins_by : (h : Counted Pins (content k s [] [] []) rs j) → (h.0 ≡ 2 * (h.0 / 2)) × (h.0 ≤ max_pin_numbers) → FromPins k s rs j
  pins_by h even = pins_on h (pins_inv (h.0 / 2) h.0 even.0 (content k s [] [] []) h.1 j h.4 h.5) even.1

  pins_counted : Counted Pins (content k s [] [] []) rs j → FromPins k s rs j
  pins_counted h = pins_by h (even_by h.0 (eqb (h.0 % 2) 0) refl h.3)

  from_pins : Solid rs → Ends (Title Pins) (content k s [] [] []) rs j → FromPins k s rs j
  from_pins a ok = pins_counted (section_inv Pins (content k s [] [] []) rs j a ok)

abbrev FromBounds : Kind → ℕ → List Run → Content → Type 0
FromBounds k s rs j = (kind_word k ≡ kind_word j.kind) × (bytes_of rs ≡ section_runs Bounds (bounds_of j.kind) ++ (section_runs Pins (by_turns j.pins) ++ (section_runs Trace j.trace ++ (section_runs Log j.log ++ [])))) × (s ≡ j.size) × (Within max_size s → Valid j)

module _ (k : Kind) (s : ℕ) (rs : List Run) (j : Content) where
  bounds_out : (b : Bounded k s [] [] [] rs j) → FromPins b.0 s b.1 j → FromBounds k s rs j
  bounds_out b x = (
    b.2 ∙ ap kind_word x.7,
    b.5 ∙ ap (λ (q : Kind). section_runs Bounds (bounds_of q) ++ bytes_of b.1) x.7 ∙ ap (λ (ws : List (List ℕ)). section_runs Bounds (bounds_of j.kind) ++ ws) x.0,
    x.8,
    λ sized. record {
      size = subst (Within max_size) x.8 sized;
      delta = subst (λ (q : Kind). delta_of q ≤ max_delta) x.7 b.3;
      bounds = subst (λ (q : Kind). AllByRecursion (λ n. n ≤ max_number) (bounds_of q)) x.7 b.4;
      few_pins = x.1;
      pins = subst (λ i. Accepted i no_pins j.pins) x.8 x.2;
      places = x.3;
      trace = subst (λ i. AllByRecursion (Within i) j.trace) x.8 x.4;
      few_events = x.5;
      log = subst (λ i. AllByRecursion (Within i) j.log) x.8 x.6;
    },
  )

  bounds_by : Bounded k s [] [] [] rs j → FromBounds k s rs j
  bounds_by b = bounds_out b (from_pins b.0 s b.1 j b.6 b.7)

  from_bounds : Solid rs → Ends (Title Bounds) (content k s [] [] []) rs j → FromBounds k s rs j
  from_bounds a ok = bounds_by (bounds_inv k s [] [] [] rs j a ok)

-- the size in front
abbrev OneSize : Content → List Run → Content → Type 0
OneSize c rs j = (s : ℕ) × (rest : List Run) × (bytes_of rs ≡ section_runs Size (s ∷ []) ++ bytes_of rest) × Within max_size s × Solid rest × Ends (Title Bounds) (with_size c s) rest j

size_inv : (c : Content) (rs : List Run) (j : Content) → Solid rs → Ends (Title Size) c rs j → OneSize c rs j
size_inv c rs j a ok =
    let h = section_inv Size c rs j a ok in
    let one : h.0 ≡ 1 = eqb-true h.0 1 h.3 in
    let o = one_inv Size 0 c h.1 j h.4 (ap (λ i. walk (state (coming Size i) c) h.1) (sym one) ∙ h.5) in
    let y = ok_if (within max_size o.0) (state (Title Bounds) (with_size c o.0)) o.2 (finding 6 o.1) o.6 in
    (o.0, o.3, whole Size (o.0 ∷ []) h.0 (bytes_of rs) (bytes_of h.1) (bytes_of o.3) h.2 o.4 (sym one), within_to max_size o.0 y.0, o.7, ap (λ (x : State). walk x o.3) y.1 ∙ o.8)

module _ (k : Kind) (rs : List Run) (j : Content) where
  sections_out : (o : OneSize (content k 0 [] [] []) rs j) → FromBounds k o.0 o.1 j → (kind_word k ∷ bytes_of rs ≡ spelled j) × Valid j
  sections_out o x = (
    ap (λ (w : List ℕ). w ∷ bytes_of rs) x.0
        ∙ ap (λ (ws : List (List ℕ)). kind_word j.kind ∷ ws)
        (o.2 ∙ ap (λ i. section_runs Size (i ∷ []) ++ bytes_of o.1) x.2 ∙ ap (λ (ws : List (List ℕ)). section_runs Size (j.size ∷ []) ++ ws) x.1),
    x.3 o.3,
  )

  sections_by : OneSize (content k 0 [] [] []) rs j → (kind_word k ∷ bytes_of rs ≡ spelled j) × Valid j
  sections_by o = sections_out o (from_bounds k o.0 o.1 j o.4 o.5)

  sections_inv : Solid rs → Ends (Title Size) (content k 0 [] [] []) rs j → (kind_word k ∷ bytes_of rs ≡ spelled j) × Valid j
  sections_inv a ok = sections_by (size_inv (content k 0 [] [] []) rs j a ok)

pub only_jobs : OnlyJobs
only_jobs text j ok =
    let r = read_inv (length text) (ltb max_text (length text)) (walk start (runs text)) j ok in
    let w = went start (runs text) j (λ (q : KindWord ≡ End). cc) (solid false 0 text) r.1 in
    let k = kind_inv start.content w.0 w.2 w.6 in
    let s = sections_inv k.0 w.1 j w.5 (ap (λ (x : State). walk x w.1) k.3 ∙ w.7) in
    (ltb-false max_text (length text) r.0, more (runs text) w.0 w.1 (kind_word k.0) w.3 k.1 ∙ s.0, s.1)
