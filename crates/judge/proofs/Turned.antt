-- The way back from a number, as a loop goes it: one event more.
use Rattle.std.proofs.Common.{◌≡◌, ℕ, zero, suc, ◌+◌, ◌-◌, ◌<◌, cond, sym, ap, ◌∙◌, subst, arith}
use Rattle.std.proofs.lemmas.Bool.{eq-eqb, ne_eqb}
use Rattle.tables.specs.Table.{Within}
use Rattle.judge.specs.declared.settling.Seats.{Seats}
use Rattle.judge.specs.Settling.{seat_in, take_number, turned, WayBack}

pub way_numbers : (f s : ℕ) (by : ℕ → ℕ) (r : ℕ) (seats : Seats) (j : ℕ) → WayBack f s by r seats j → Within s j × Within s (by j)
way_numbers zero s by r seats j way = absurd way
way_numbers (suc f) s by r seats j way = (way.0, way.1)

-- t events have their numbers; event i, which found number j, takes it
module _ (s t : ℕ) (lt : t < s) (by : ℕ → ℕ) (r : ℕ) (seats seats₂ : Seats) (j i : ℕ) (i-is : by j ≡ i) (seats-is : seats₂ ≡ take_number seats i j) where
  left : s - t ≡ suc (s - (t + 1))
  left = omega arith

  seats_by : seats₂ ≡ take_number seats (by j) j
  seats_by = seats-is ∙ ap (λ (z : ℕ). take_number seats z j) (sym i-is)

  -- it is not r: the way goes on from the number that it had
  module _ (other : i ≡ r → ⊥) (n : ℕ) (n-is : n ≡ seat_in seats i) where
    n-by : n ≡ seat_in seats (by j)
    n-by = n-is ∙ ap (seat_in seats) (sym i-is)

    pub way_next : WayBack (s - t) s by r seats j → WayBack (s - (t + 1)) s by r seats₂ n
    way_next way =
        let on : WayBack (s - (t + 1)) s by r (take_number seats (by j) j) (seat_in seats (by j)) = (subst (λ (f : ℕ). WayBack f s by r seats j) left way).2 (λ q. other (sym i-is ∙ q)) in
        subst (λ (z : ℕ). WayBack (s - (t + 1)) s by r seats₂ z) (sym n-by) (subst (λ (x : Seats). WayBack (s - (t + 1)) s by r x (seat_in seats (by j))) (sym seats_by) on)

    pub turned_next : turned (s - (t + 1)) by r seats₂ n ≡ turned (s - t) by r seats j
    turned_next =
        ap (turned (s - (t + 1)) by r seats₂) n-by ∙ ap (λ (x : Seats). turned (s - (t + 1)) by r x (seat_in seats (by j))) seats_by
        ∙ sym (ap (λ b. cond b (take_number seats (by j) j) (turned (s - (t + 1)) by r (take_number seats (by j) j) (seat_in seats (by j)))) (ne_eqb (by j) r (λ q. other (sym i-is ∙ q))))
        ∙ ap (λ (f : ℕ). turned f by r seats j) (sym left)

  -- it is r: that is all
  pub turned_last : i ≡ r → seats₂ ≡ turned (s - t) by r seats j
  turned_last e =
      seats_by
      ∙ sym (ap (λ b. cond b (take_number seats (by j) j) (turned (s - (t + 1)) by r (take_number seats (by j) j) (seat_in seats (by j)))) (eq-eqb (by j) r (i-is ∙ e)))
      ∙ ap (λ (f : ℕ). turned f by r seats j) (sym left)
