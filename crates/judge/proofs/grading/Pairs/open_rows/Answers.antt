use Rattle.std.proofs.Common.{◌≡◌, ℕ, ◌+◌, ◌-◌, List, ◌++◌, replicate, drop, subst, arith}
use Rattle.std.proofs.lemmas.List.{length-take-le}
use Rattle.judge.specs.Allowed.{is_open}
use Rattle.judge.specs.BitRows.{open_in}
use Rattle.judge.specs.Settling.{graded}
use Rattle.judge.proofs.GradedPairs.{rows_more, rows_first}
use Rattle.judge.proofs.grading.Pairs.open_rows.Goals as goal

-- the rows before any is written
abbrev blank : List ℕ
blank = replicate 32 0

pub loop-place-preserved : goal.loop-place-preserved
loop-place-preserved g c =
    let pairs = c.args.self.now in
    let wide = length-take-le pairs.size blank pairs.grid.small in
    rows_more pairs.grades.now pairs.size c.loop-place.place c.loop-place.row-items c.open_row.result c.row_at.result.now (omega (arith, c.loop-place-test.true)) c.row_at.ensures.long
    c.row_at.ensures.grades c.open_row.ensures.bits c.open_row.ensures.small c.loop-place.invariant

pub returns : goal.returns
returns g c =
    let pairs = c.args.self.now in
    let s = pairs.size in
    let wide = length-take-le s blank pairs.grid.small in
    let all : c.loop-place.place ≡ s = omega arith in
    let row = rows_first pairs.grades.now s c.loop-place.place c.loop-place.row-items (drop s blank) all c.loop-place.invariant in
    record {
      rows = λ r n w v. (let up : r - 1 + 1 ≡ r = omega (arith, w) in
          subst (λ (z : ℕ). open_in (c.loop-place.row-items ++ drop s blank) r n ≡ is_open (graded pairs z n)) up ((row (r - 1) (omega (arith, w))).0 n v));
      small = λ r h. (row r h).1;
    }
