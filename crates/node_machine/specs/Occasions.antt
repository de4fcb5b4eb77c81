-- The feed and the circumstances from which a responder makes a response.
use Rattle.std.specs.Prelude.{ℕ, ◌↔◌, Bool, List, Option, IfSome}
use Rattle.feed_keep.specs.declared.keep.Keep.{Ghosts}
use Rattle.feed_model.specs.History.{History}
use Rattle.feed_model.specs.Content.{IsContent}
use Rattle.feed_releases.specs.Feeds.{recorded}
use Rattle.node_machine.specs.declared.occasion.Occasion.{Occasion}
use Rattle.node_machine.specs.Rules.{Terms}

-- the circumstances beside the feed, with the sites of the responder
abbrev pub terms_of : {K V : Type 0} {k : Ghosts K} → V → Occasion K k → Terms V
terms_of sites occasion = record { policy = occasion.policy; is_local = occasion.is_local; today = occasion.today; sites = sites }

-- the response, if there is one, is right for every history that the feed may have
abbrev pub IsResponseOn : {K V : Type 0} {k : Ghosts K} → (Terms V → History → List ℕ → List ℕ → Bool → List ℕ → Type 0)
    → V → Occasion K k → List ℕ → List ℕ → Bool → Option (List ℕ) → Type 0
IsResponseOn replies sites occasion head body persists reply =
    IfSome reply (λ text. (h : History) → IsContent (recorded occasion.feed.now) h → replies (terms_of sites occasion) h head body persists text)

-- the responses of one relation are those of another, in the same circumstances
abbrev pub AreResponsesOf : {V : Type 0} → (Terms V → History → List ℕ → List ℕ → Bool → List ℕ → Type 0)
    → (Terms V → History → List ℕ → List ℕ → Bool → List ℕ → Type 0) → Type 0
AreResponsesOf {V} old new =
    (terms : Terms V) (h : History) (head body : List ℕ) (keeps : Bool) (text : List ℕ) → old terms h head body keeps text ↔ new terms h head body keeps text
