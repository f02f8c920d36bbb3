use Rattle.std.proofs.Common.{◌≡◌, suc, ◌<◌, false, length, set, sym, ap, ◌∙◌, arith, rules}
use Rattle.std.proofs.lemmas.List.{get_or_read}
use Rattle.tables.specs.declared.grade.Grade.TheVariants.{Closed}
use Rattle.judge.specs.declared.settling.Reach.TheVariants.{Unseen, Reached}
use Rattle.judge.specs.Settling.{graded, is_scanned, scanned_in, finder_in, path_in}
use Rattle.judge.proofs.Rows.{listed_suc, not_scanned, path_here, path_there, finder_here, finder_there, scanned_still, relax_done, relax_none, relax_some}
use Rattle.judge.proofs.settling.Search.relax_row.Goals as goal
use Rattle.judge.proofs.settling.Search.relax_row.Goals.{in-Some, in_default-shorter_path}

pub loop-place-preserved-in-Scanned : goal.loop-place-preserved-in-Scanned
loop-place-preserved-in-Scanned g c =
    let k = g.C.Cost.kind in
    let before = c.args.self.now in
    let now = c.loop-place.self in
    let j = c.loop-place.place in
    let inv = c.loop-place.invariant in
    let both = relax_done k (graded before.pairs) c.args.event c.args.lead (scanned_in before.known) (path_in k before.known before.paths.now) (finder_in before.known) j (path_in k now.known now.paths.now) (finder_in now.known) inv.2 inv.3
    (sym (inv.1 (suc j) (omega arith)) ∙ ap is_scanned (listed_suc now.known Unseen j ∙ c.in-Scanned.is)) in
    (inv.0, inv.1, both.0, both.1)

pub loop-place-preserved : goal.loop-place-preserved
loop-place-preserved g c =
    let k = g.C.Cost.kind in
    let before = c.args.self.now in
    let grade = graded before.pairs in
    let i = c.args.event in
    let l = c.args.lead in
    let done = scanned_in before.known in
    let old = path_in k before.known before.paths.now in
    let old-by = finder_in before.known in
    let now = c.loop-place.self in
    let path = path_in k now.known now.paths.now in
    let by = finder_in now.known in
    let j = c.loop-place.place in
    let inv = c.loop-place.invariant in
    let unscanned : scanned_in now.known (suc j) ≡ false = ap is_scanned (listed_suc now.known Unseen j) ∙ not_scanned _ c.in_default.not-Scanned in
    let undone : done (suc j) ≡ false = sym (inv.1 (suc j) (omega arith)) ∙ unscanned in
    let row = c.row-grade-items.result.now in
    let y-is : c.grade-item.result ≡ grade i (suc j) = get_or_read row j c.grade-item.result c.loop-place-test.true c.grade-item.is Closed ∙ sym (listed_suc row Closed j) ∙ c.row-grade-items.ensures.grades (suc j) (omega arith) in
    elim c.match-shorter_path.branch [
      | in-Some w ↦
          (let p = w.in-Some.path in
          let inside : j < length now.known = search rules in
          let within : j < length now.paths.now = omega (arith, ap (λ x. x.size) inv.0) in
          let both = relax_some k grade i l done old old-by j path by inv.2 inv.3 undone c.path.result c.path.ensures c.grade-item.result y-is p w.in-Some.ensures
          (path_in k (set now.known j (Reached i)) (set now.paths.now j p)) (finder_in (set now.known j (Reached i)))
          (path_there now.known j i k now.paths.now p) (path_here now.known j i k now.paths.now p inside within)
          (finder_there now.known j i) (finder_here now.known j i inside) in
          rw w.self-is (inv.0, (λ n o. scanned_still now.known j i inside unscanned n o ∙ inv.1 n o), both.0, both.1))
      | in_default-shorter_path w ↦
          (let both = relax_none k grade i l done old old-by j path by inv.2 inv.3 undone c.path.result c.path.ensures c.grade-item.result y-is w.in_default-shorter_path.ensures in
          rw w.self-is (inv.0, inv.1, both.0, both.1))
    ]

pub returns : goal.returns
returns g c =
    let end = c.row-grade-items.ensures.long in
    let inv = c.loop-place.invariant in
    record {
      relaxed = record {
        scanned = inv.1;
        path = λ d w. (inv.2 d w.0).0 (omega (arith, w.1));
        finder = λ d w. (inv.3 d w.0).0 (omega (arith, w.1));
      };
      pairs = inv.0;
    }
