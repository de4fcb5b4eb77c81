use Rattle.std.proofs.Common.{◌≡◌, ◌++◌, ◌∙◌, ℕ, List, refl, inl, inr, [], ap, subst}
use Rattle.std.proofs.lemmas.Result.{on_ok_weaker}
use Rattle.node_monitoring.specs.declared.request_kind.Target.TheVariants as target
use Rattle.node_monitoring.specs.Exchanges.{entry_of}
use Rattle.node_monitoring.specs.LogLines.{line_text}
use Rattle.node_monitoring.specs.SiteNames.{site_name}
use Rattle.node_monitoring.specs.Targets.{target_of}
use Rattle.node_monitoring.proofs.exchange.record_exchange.Goals as goal

pub returns-in-Some-clause-counted : goal.returns-in-Some-clause-counted
returns-in-Some-clause-counted c = let found = c.in-Some.ensures in
    record {
      named = target_of found.head;
      is = inr (found.head, found.begins, refl);
      requests = c.record_request.ensures.requests found.head found.has;
      times = c.record_request.ensures.times;
      names = c.record_request.ensures.names;
      sites = c.record_request.ensures.sites;
    }

pub returns-in-Some-clause-line : goal.returns-in-Some-clause-line
returns-in-Some-clause-line c = let found = c.in-Some.ensures in
    on_ok_weaker c.record_request.result (λ written. inr (found.head, found.begins, written found.head found.has)) c.record_request.ensures.line

pub returns-in-None-clause-counted : goal.returns-in-None-clause-counted
returns-in-None-clause-counted c = record {
  named = target.Other;
  is = inl (c.in-None.ensures, refl);
  requests = c.count_exchange.ensures.requests;
  times = c.count_exchange.ensures.times;
  names = c.count_exchange.ensures.names;
  sites = c.count_exchange.ensures.sites;
}

pub returns-in-None-clause-line : goal.returns-in-None-clause-line
returns-in-None-clause-line c = on_ok_weaker c.put_entry.result
    (λ written. inl (
      c.in-None.ensures,
      subst (λ (site : List ℕ). c.put_entry.new.out.items ≡ c.args.out.now.items ++ line_text (entry_of c.args.policy c.args.exchange.now site []))
          (c.site_name.ensures ∙ ap (λ (names : List (List ℕ)). site_name names c.args.exchange.now.site) c.count_exchange.ensures.names) (written [] refl),
    ))
    c.put_entry.ensures
