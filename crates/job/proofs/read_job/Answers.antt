use Rattle.std.proofs.Common.{ℕ, ◌≤◌, List, length, Ok, Err, ap, ◌∙◌, subst, arith, Bor, rules}
use Rattle.std.proofs.lemmas.Result.{err_from_is_err_and}
use Rattle.job.specs.Faults.{finding_of}
use Rattle.job.specs.Limits.{max_text}
use Rattle.job.specs.Answers.{Next, told}
use Rattle.job.proofs.Laws.{reading_laws}
use Rattle.job.proofs.Walked.{spoiled_ends, text_ends, token_goes, token_stops}
use Rattle.job.proofs.read_job.Goals as goal

pub returns-in_err-token : goal.returns-in_err-token
returns-in_err-token c =
    let l = c.loop-place in
    let text = c.args.text.now in
    let fault = c.in_err-token.field-0.0 in
    let n = subst (λ t. Next t l.tokens.place c.next_token.new.self.place (Err fault)) l.invariant.same c.in_err-token.ensures.next in
    let short : length text ≤ max_text = omega arith in
    let p = err_from_is_err_and c.from_residual.result c.from_residual.ensures.1 in
    let e = spoiled_ends text c.args.log.now short l.tokens.place l.reader l.log l.invariant.walking c.next_token.new.self.place fault n in
    record { answer = ap (told l.log) p.1 ∙ ap (λ f. Err (finding_of f)) p.2 ∙ e.0; log = e.1; laws = reading_laws }

pub returns-in-End : goal.returns-in-End
returns-in-End c =
    let l = c.loop-place in
    let text = c.args.text.now in
    let n = subst (λ t. Next t l.tokens.place c.next_token.new.self.place (Ok c.in_ok-token.token)) l.invariant.same c.in_ok-token.ensures.next in
    let end = subst (λ x. Next text l.tokens.place c.next_token.new.self.place (Ok x)) c.in-End.is n in
    let short : length text ≤ max_text = omega arith in
    let e = text_ends text c.args.log.now short l.tokens.place l.reader l.log l.invariant.walking c.next_token.new.self.place c.in-End.place end in
    record { answer = c.finish.ensures l.log ∙ e.0; log = e.1; laws = reading_laws }

pub loop-place-preserved : goal.loop-place-preserved
loop-place-preserved c =
    let l = c.loop-place in
    let text = c.args.text.now in
    let n = subst (λ t. Next t l.tokens.place c.next_token.new.self.place (Ok c.in_ok-token.token)) l.invariant.same c.in_ok-token.ensures.next in
    let short : length text ≤ max_text = omega arith in
    record {
      same = ap (λ (x : Bor (List ℕ)). x.now) c.in_ok-token.ensures.text ∙ l.invariant.same;
      walking =
          token_goes text c.args.log.now short l.tokens.place l.reader l.log l.invariant.walking _ c.in_ok-token.token c.in_default.not-End n
          c.accept.new.self c.accept.new.log (search rules) _ c.in_ok-accept-in_default.ensures;
    }

pub returns-in_err-accept-in_default : goal.returns-in_err-accept-in_default
returns-in_err-accept-in_default c =
    let l = c.loop-place in
    let text = c.args.text.now in
    let fault = c.in_err-accept-in_default.field-0.0 in
    let n = subst (λ t. Next t l.tokens.place c.next_token.new.self.place (Ok c.in_ok-token.token)) l.invariant.same c.in_ok-token.ensures.next in
    let short : length text ≤ max_text = omega arith in
    let p = err_from_is_err_and c.from_residual-in_err-accept-in_default.result c.from_residual-in_err-accept-in_default.ensures.1 in
    let e =
    token_stops text c.args.log.now short l.tokens.place l.reader l.log l.invariant.walking _ c.in_ok-token.token c.in_default.not-End n
    c.accept.new.self c.accept.new.log (search rules) fault c.in_err-accept-in_default.ensures in
    record { answer = ap (told c.accept.new.log) p.1 ∙ ap (λ f. Err (finding_of f)) p.2 ∙ e.0; log = e.1; laws = reading_laws }

pub returns-then-text-gt-MAX_TEXT : goal.returns-then-text-gt-MAX_TEXT
returns-then-text-gt-MAX_TEXT c = let long = c.if-text-gt-MAX_TEXT.true in record { answer = search rules; log = search rules; laws = reading_laws }
