use Rattle.std.proofs.Common.{◌≡◌, suc, ◌<◌, true, false, get_or, take, sym, ap, ◌∙◌, subst, arith, rules}
use Rattle.std.proofs.lemmas.List.{get_or_read, get_or-take, length-take-le}
use Rattle.judge.specs.declared.settling.Reach.TheVariants.{Unseen, Reached}
use Rattle.judge.specs.Rows.{listed, path_by, Preferred}
use Rattle.judge.specs.Settling.{is_scanned, finder_of, scanned_in, path_in}
use Rattle.judge.proofs.Rows.{listed_suc, not_reached, near_skip, near_keep, near_take, near_place}
use Rattle.judge.proofs.settling.Search.nearest.Goals as goal
use Rattle.judge.proofs.settling.Search.nearest.Goals.{in-Reached+then-is_nearer, in-Reached+else-is_nearer, in_default}

pub loop-place-preserved : goal.loop-place-preserved
loop-place-preserved g c =
    let k = g.C.Cost.kind in
    let laws = g.met.C.Cost.laws in
    let reached = c.args.self.now.known in
    let paths = c.args.self.now.paths.now in
    let done = scanned_in reached in
    let path = path_in k reached paths in
    let v = listed c.args.prices.now k.zero in
    let j = c.loop-place.place in
    let best = c.loop-place.best in
    let inv = c.loop-place.invariant in
    let p = listed paths k.zero (suc j) in
    let p-is : get_or paths j k.zero ≡ p = sym (listed_suc paths k.zero j) in
    let prices = c.args.prices.now in
    let lt : j < c.size.result = (let all = length-take-le c.size.result prices (omega (arith, c.requires)) in omega (arith, c.loop-place-test.true)) in
    let v-is : c.price-item.result ≡ v (suc j) = get_or_read (take c.size.result prices) j c.price-item.result c.loop-place-test.true c.price-item.is k.zero ∙ get_or-take c.size.result prices j k.zero lt ∙ sym (listed_suc prices k.zero j) in
    elim c.match-self-place.branch [
      | in-Reached+then-is_nearer w ↦
          (let is : listed reached Unseen (suc j) ≡ Reached w.in-Reached._finder = listed_suc reached Unseen j ∙ w.in-Reached.is in
          let key : w.minus-key.result ≡ k.minus p (v (suc j)) = w.minus-key.ensures ∙ ap (λ x. k.minus x c.price-item.result) (w.cost_at.ensures ∙ p-is) ∙ ap (k.minus p) v-is in
          rw (w.best-is, key) (near_take k laws done path v j best p (ap is_scanned is) (ap (λ x. path_by (finder_of x) p) is) (subst (λ z. Preferred k best z true) key w.if-is_nearer.ensures) inv))
      | in-Reached+else-is_nearer w ↦
          (let is : listed reached Unseen (suc j) ≡ Reached w.in-Reached._finder = listed_suc reached Unseen j ∙ w.in-Reached.is in
          let key : w.minus-key.result ≡ k.minus p (v (suc j)) = w.minus-key.ensures ∙ ap (λ x. k.minus x c.price-item.result) (w.cost_at.ensures ∙ p-is) ∙ ap (k.minus p) v-is in
          rw w.best-is (near_keep k laws done path v j best p (ap (λ x. path_by (finder_of x) p) is) (subst (λ z. Preferred k best z false) key w.if-is_nearer.ensures) inv))
      | in_default w ↦ rw w.best-is (near_skip k laws done path v j best (λ a q m. not_reached (listed reached Unseen (suc j)) p q (λ i e. w.in_default.not-Reached i (sym (listed_suc reached Unseen j) ∙ e)) a m) inv)
    ]

pub returns : goal.returns
returns g c =
    let k = g.C.Cost.kind in
    let reached = c.args.self.now.known in
    let all = length-take-le c.size.result c.args.prices.now (omega (arith, c.requires)) in
    near_place k g.met.C.Cost.laws (scanned_in reached) (path_in k reached c.args.self.now.paths.now) (listed c.args.prices.now k.zero) c.loop-place.place c.args.self.now.pairs.size c.loop-place.best c.map.result (omega (arith, c.loop-place-test.false)) (search rules) c.loop-place.invariant
