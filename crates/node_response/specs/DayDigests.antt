-- The digests of a day's tags, which a site keeps.
use Rattle.std.specs.Prelude.{◌≡◌, ℕ, List, Option, IfSome}
use Rattle.sha2.specs.Sha256.{sha256}
use Rattle.node_request.specs.declared.representation.Representation.{Representation}
use Rattle.node_request.specs.declared.representation.Representation.TheVariants.{Text, Json, Html, Fragment, Sfx}
use Rattle.node_response.specs.Tags.{kind_and_day, message_of}
use Rattle.node_response.specs.declared.day_digests.DayDigests.{DayDigests}

-- the digest of a representation
abbrev pub digest_for : Representation → DayDigests → List ℕ
digest_for Text digests = digests.text
digest_for Json digests = digests.json
digest_for Html digests = digests.html
digest_for Fragment digests = digests.fragment
digest_for Sfx digests = digests.sfx

-- each digest is that of this source, of its representation and of the day
abbrev pub AreDigestsOf : List ℕ → Option DayDigests → Type 0
AreDigestsOf source kept = IfSome kept (λ digests. (representation : Representation)
    → digest_for representation digests ≡ sha256 (message_of source (kind_and_day representation digests.day)))
