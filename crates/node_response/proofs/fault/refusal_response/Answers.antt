use Rattle.std.proofs.Common.{◌≡◌, true, false, sym, subst}
use Rattle.std.proofs.lemmas.Result.{IfOk-weaker}
use Rattle.std.proofs.lemmas.List.Elements.{All-nil}
use Rattle.httparse.specs.Grammar.{AllPass, is_uri_byte}
use Rattle.node_response.specs.Responses.{ResponseValue}
use Rattle.node_response.specs.Messages.{IsLocation, IsMessageFor}
use Rattle.node_response.proofs.fault.refusal_response.Goals as goal

pub returns-clause-message : goal.returns-clause-message
returns-clause-message c = IfOk-weaker c.response-2.result _ (IsMessageFor c.args.keeps false)
    (λ response is. is (subst (λ (r : ResponseValue). IsLocation r.location) (sym c.in_ok-refusal.ensures) (All-nil (λ b. is_uri_byte b ≡ true)))
    (subst (λ (r : ResponseValue). AllPass is_uri_byte r.tag) (sym c.in_ok-refusal.ensures) (All-nil (λ b. is_uri_byte b ≡ true))))
    c.response-2.ensures.message
