use Rattle.std.proofs.Common.{◌≡◌, ℕ, ◌≤◌}
use Rattle.judge.specs.Rows.{gone_over, found_by}
use Rattle.judge.specs.Settling.{graded, scanned_in, finder_in, path_in}
use Rattle.judge.proofs.Rows.{Over}
use Rattle.judge.proofs.settling.Search.relax_row.Given as goal

abbrev pub invariant-loop-place : goal.invariant-loop-place
invariant-loop-place g l =
    let k = g.C.Cost.kind in
    let before = l.initial.self in
    let old = path_in k before.known before.paths.now in
    let done = scanned_in before.known in
    (l.self.pairs ≡ before.pairs)
    × ((c : ℕ) → 1 ≤ c → scanned_in l.self.known c ≡ done c)
    × Over l.place (path_in k l.self.known l.self.paths.now) (gone_over k (graded before.pairs) l.event l.lead done old) old
    × Over l.place (finder_in l.self.known) (found_by k (graded before.pairs) l.event l.lead done old (finder_in before.known)) (finder_in before.known)
