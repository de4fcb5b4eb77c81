-- The requests that made a node fetch.
use Rattle.std.proofs.Common.{◌≡◌, ℕ, List, [], ◌∷◌, Option, Some, Ok, Err, sym, ap, subst}
use Rattle.feed_names.specs.ReleaseName.{Name}
use Rattle.node_machine.specs.NodeEvents.{NodeEvent, Accepted, Served, Passed, DayBegan, Asked, Began, Finished, Took, TookPart, Exchanged, AskedSites, SitesBegan, SitesKept, Reopened}
use Rattle.node_machine.specs.NodeEvents.{events_of, fetching_in, requested_in}
use Rattle.node_machine.specs.Rules.{Rules, IsAskedBy, AreAllowed}
use Rattle.node_machine.specs.Promise.{IsAuthorized, ChangesByToken, AreOfTheMoment}

authorized_more : {V : Type 0} (token : Option (List ℕ)) (name : Name) (event : NodeEvent V) (earlier : List (NodeEvent V)) → IsAuthorized token name earlier
    → IsAuthorized token name (event ∷ earlier)
authorized_more token name event earlier is = record {
  key = is.key;
  bytes = is.bytes;
  earlier = is.earlier;
  moment = (event ∷ is.moment.0, ap (λ h. event ∷ h) is.moment.1);
  asked = is.asked;
}

-- a release that is to be fetched was asked for with the token
requested_by : {V : Type 0} (rules : Rules V) (token : Option (List ℕ)) (name : Name) (history : List (NodeEvent V)) → AreAllowed rules token history
    → requested_in history ≡ Some (Ok name) → IsAuthorized token name history
requested_by rules token name [] allowed is = absurd (cc)
requested_by rules token name (Accepted key ∷ earlier) allowed is = authorized_more token name (Accepted key) earlier (requested_by rules token name earlier allowed is)
requested_by rules token name (Served key share ∷ earlier) allowed is = authorized_more token name (Served key share) earlier (requested_by rules token name earlier allowed.1 is)
requested_by rules token name (Passed millis ∷ earlier) allowed is = authorized_more token name (Passed millis) earlier (requested_by rules token name earlier allowed is)
requested_by rules token name (DayBegan today ∷ earlier) allowed is = authorized_more token name (DayBegan today) earlier (requested_by rules token name earlier allowed is)
requested_by rules token name (Asked key bytes asked ∷ earlier) allowed is =
    let same : asked ≡ Ok name = cc (is) in
    record {
      key = key;
      bytes = bytes;
      earlier = earlier;
      moment = ([], ap (λ a. Asked key bytes a ∷ earlier) (sym same));
      asked = subst (λ a. IsAskedBy token (events_of key earlier) bytes a) same allowed.0;
    }
requested_by rules token name (Began asked ∷ earlier) allowed is = absurd (cc)
requested_by rules token name (Finished ∷ earlier) allowed is = authorized_more token name Finished earlier (requested_by rules token name earlier allowed.1 is)
requested_by rules token name (Took other phase reply steps ∷ earlier) allowed is =
    authorized_more token name (Took other phase reply steps) earlier (requested_by rules token name earlier allowed.1 is)
requested_by rules token name (TookPart other first size bytes answer ∷ earlier) allowed is =
    authorized_more token name (TookPart other first size bytes answer) earlier (requested_by rules token name earlier allowed.1 is)
requested_by rules token name (Exchanged event ∷ earlier) allowed is = authorized_more token name (Exchanged event) earlier (requested_by rules token name earlier allowed.1 is)
requested_by rules token name (AskedSites other bytes asked ∷ earlier) allowed is =
    authorized_more token name (AskedSites other bytes asked) earlier (requested_by rules token name earlier allowed.2 is)
requested_by rules token name (SitesBegan begun ∷ earlier) allowed is = authorized_more token name (SitesBegan begun) earlier (requested_by rules token name earlier allowed.1 is)
requested_by rules token name (SitesKept ∷ earlier) allowed is = authorized_more token name SitesKept earlier (requested_by rules token name earlier allowed.1 is)
requested_by rules token name (Reopened ∷ earlier) allowed is = absurd (cc)

-- a release that is fetched was asked for with the token
pub authorized : {V : Type 0} (rules : Rules V) (token : Option (List ℕ)) (name : Name) (history : List (NodeEvent V)) → AreAllowed rules token history
    → fetching_in history ≡ Some name → IsAuthorized token name history
authorized rules token name [] allowed is = absurd (cc)
authorized rules token name (Accepted key ∷ earlier) allowed is = authorized_more token name (Accepted key) earlier (authorized rules token name earlier allowed is)
authorized rules token name (Served key share ∷ earlier) allowed is = authorized_more token name (Served key share) earlier (authorized rules token name earlier allowed.1 is)
authorized rules token name (Passed millis ∷ earlier) allowed is = authorized_more token name (Passed millis) earlier (authorized rules token name earlier allowed is)
authorized rules token name (DayBegan today ∷ earlier) allowed is = authorized_more token name (DayBegan today) earlier (authorized rules token name earlier allowed is)
authorized rules token name (Asked key bytes asked ∷ earlier) allowed is = authorized_more token name (Asked key bytes asked) earlier (authorized rules token name earlier allowed.2 is)
authorized rules token name (Began (Ok other) ∷ earlier) allowed is =
    let same : other ≡ name = cc (is) in
    authorized_more token name (Began (Ok other)) earlier (requested_by rules token name earlier allowed.2 (subst (λ n. requested_in earlier ≡ Some (Ok n)) same allowed.0))
authorized rules token name (Began (Err fault) ∷ earlier) allowed is = absurd (cc)
authorized rules token name (Finished ∷ earlier) allowed is = absurd (cc)
authorized rules token name (Took other phase reply steps ∷ earlier) allowed is = authorized_more token name (Took other phase reply steps) earlier (authorized rules token name earlier allowed.1 is)
authorized rules token name (TookPart other first size bytes answer ∷ earlier) allowed is =
    authorized_more token name (TookPart other first size bytes answer) earlier (authorized rules token name earlier allowed.1 is)
authorized rules token name (Exchanged event ∷ earlier) allowed is = authorized_more token name (Exchanged event) earlier (authorized rules token name earlier allowed.1 is)
authorized rules token name (AskedSites other bytes asked ∷ earlier) allowed is = authorized_more token name (AskedSites other bytes asked) earlier (authorized rules token name earlier allowed.2 is)
authorized rules token name (SitesBegan begun ∷ earlier) allowed is = authorized_more token name (SitesBegan begun) earlier (authorized rules token name earlier allowed.1 is)
authorized rules token name (SitesKept ∷ earlier) allowed is = authorized_more token name SitesKept earlier (authorized rules token name earlier allowed.1 is)
authorized rules token name (Reopened ∷ earlier) allowed is = absurd (cc)

-- the feed changes only for the release that is fetched
pub changes_by_token : {V : Type 0} (rules : Rules V) (token : Option (List ℕ)) (history : List (NodeEvent V)) → AreAllowed rules token history → ChangesByToken token history
changes_by_token rules token history allowed = record {
  reply = λ name phase reply steps earlier is. (let so = subst (AreAllowed rules token) is allowed in (so.0, authorized rules token name earlier so.1 so.0));
  part = λ name first size bytes answer earlier is. (let so = subst (AreAllowed rules token) is allowed in (so.0, authorized rules token name earlier so.1 so.0));
}

-- the responses of a share are of its moment
pub of_the_moment : {V : Type 0} (rules : Rules V) (token : Option (List ℕ)) (history : List (NodeEvent V)) → AreAllowed rules token history → AreOfTheMoment rules token history
of_the_moment rules token history allowed key share earlier is =
    let so = subst (AreAllowed rules token) is allowed in (so.0.is_local, so.0.today, so.0.day, so.0.sites, so.0.had, so.0.replied)
