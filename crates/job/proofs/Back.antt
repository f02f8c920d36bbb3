-- Every job reads back from its spelling.
use Rattle.std.proofs.Common.{◌≡◌, ◌*◌, ◌%◌, ◌≤◌, true, List, [], ◌∷◌, ◌++◌, length, Ok, refl, ap, ◌∙◌, arith}
use native.Mathlib.Nat.{mul-mod_right}
use Rattle.std.proofs.lemmas.Bool.{cond-true, eq-eqb, le-leb, and_from}
use Rattle.tables.specs.Limits.{max_places}
use Rattle.job.specs.Limits.{max_pin_numbers, max_log}
use Rattle.job.specs.Runs.{runs}
use Rattle.job.specs.Content.{Content, bounds_of}
use Rattle.job.specs.States.{state, start}
use Rattle.job.specs.Taking.{is_count}
use Rattle.job.specs.Spelling.{section_runs, by_turns, spelled, Valid}
use Rattle.job.specs.Laws.{ReadsBack}
use Rattle.job.specs.declared.accepted.Kind.{Kind}
use Rattle.job.specs.declared.accepted.Pin.{Pin}
use Rattle.job.specs.declared.expected.Section.TheVariants.{Size, Bounds, Pins, Trace, Log}
use Rattle.job.specs.declared.expected.Expected.TheVariants.{End}
use Rattle.job.proofs.Leading.{Reads, reads_none, reads_section, reads_kind, reads_size, reads_bounds, reads_pins, reads_trace, reads_log, empty_kind, content}
use Rattle.job.proofs.Walked.{read_is}

pub length_turns : (ps : List Pin) → length (by_turns ps) ≡ 2 * length ps
length_turns [] = refl
length_turns (p ∷ ps) = let h = length_turns ps in omega arith

pins_count : (k : Kind) (ps : List Pin) → length (by_turns ps) ≤ max_pin_numbers → is_count Pins k (length (by_turns ps)) ≡ true
pins_count k ps h =
    let even : length (by_turns ps) % 2 ≡ 0 = ap (λ n. n % 2) (length_turns ps) ∙ mul-mod_right 2 (length ps) in
    cond-true _ _ _ (eq-eqb (length (by_turns ps) % 2) 0 even) ∙ le-leb (length (by_turns ps)) max_pin_numbers h

pub reads_job : (c : Content) → Valid c → Reads start (spelled c) (state End c)
reads_job c v =
    let k = c.kind in
    let e = empty_kind k in
    let last = section_runs Log c.log ++ [] in
    let late = section_runs Trace c.trace ++ last in
    let pins = section_runs Pins (by_turns c.pins) ++ late in
    let bounds = section_runs Bounds (bounds_of k) ++ pins in
    let u = state End c in
    let size = v.size.1 in
    reads_kind k start.content (section_runs Size (c.size ∷ []) ++ bounds) u
    (reads_section Size (content e 0 [] [] []) (c.size ∷ []) bounds u refl (omega arith)
    (reads_size c.size (content e 0 [] [] []) bounds u v.size
    (reads_bounds k c.size [] [] [] pins u v.delta v.bounds
    (reads_section Pins (content k c.size [] [] []) (by_turns c.pins) late u (pins_count k c.pins v.few_pins) (omega (arith, v.few_pins))
    (reads_pins c.pins (content k c.size [] [] []) late u size v.pins
    (reads_section Trace (content k c.size c.pins [] []) c.trace last u (and_from _ _ (le-leb 1 (length c.trace) v.places.0) (le-leb (length c.trace) max_places v.places.1)) (omega (arith, v.places.1))
    (reads_trace c.trace (content k c.size c.pins [] []) last u size v.trace
    (reads_section Log (content k c.size c.pins c.trace []) c.log [] u (le-leb (length c.log) max_log v.few_events) (omega (arith, v.few_events))
    (reads_log c.log (content k c.size c.pins c.trace []) [] u size v.log (reads_none u))))))))))

pub reads_back : ReadsBack
reads_back text j h e v = read_is text h (Ok (state End j)) (reads_job j v (runs text) e)
