-- The bytes of an answer.
use Rattle.std.specs.Prelude.{ℕ, ◌+◌, List, [], ◌∷◌, ◌++◌, map, ℤ, vec_items, codes, decimal}
use Rattle.std.specs.Fmt.{signed_decimal}
use Rattle.std.specs.List.{flat_map}
use Rattle.lines.specs.Lines.{line}
use Rattle.report.specs.Windows.{begin_of}
use Rattle.report.specs.declared.Hit.{Hit}
use Rattle.report.specs.declared.Report.{Report}
use Rattle.job.specs.Faults.{Finding, layer_word}

-- `fault`, layer, number, place
abbrev pub fault_bytes : Finding → List ℕ
fault_bytes f = line (codes "fault" ∷ layer_word f.layer ∷ decimal f.number ∷ decimal f.place ∷ [])

-- the position of the window's first event, the numbers of the cost, the numbers of events 1 to S
abbrev pub hit_bytes : {C : Type 0} → (C → List ℤ) → ℕ → Hit C → List ℕ
hit_bytes parts m h = line (decimal (begin_of m h) ∷ (map signed_decimal (parts h.cost) ++ map decimal (vec_items h.numbers)))

-- a line for each hit
abbrev pub hits_bytes : {C : Type 0} → (C → List ℤ) → ℕ → List (Hit C) → List ℕ
hits_bytes parts m hs = flat_map (hit_bytes parts m) hs

-- `report` with the number of windows, the hits, and `end` with the counts
abbrev pub report_bytes : {C : Type 0} → (C → List ℤ) → ℕ → Report C → List ℕ
report_bytes parts m r =
    line (codes "report" ∷ decimal (r.counts.0 + r.counts.1 + r.counts.2) ∷ [])
    ++ (hits_bytes parts m (vec_items r.hits)
    ++ line (codes "end" ∷ decimal r.counts.0 ∷ decimal r.counts.1 ∷ decimal r.counts.2 ∷ []))
