-- Entity tags (RFC 9110, section 8.8.3).
use Rattle.std.specs.Prelude.{◌≡◌, ℕ, ℤ, List, [], ◌∷◌, ◌++◌}
use Rattle.std.specs.Fmt.{decimal, signed_decimal}
use Rattle.sha2.specs.Sha256.{sha256}
use Rattle.hex.specs.Hex.{encode_lower}
use Rattle.feed_answer.specs.Today.{TodayValue}
use Rattle.node_site.specs.Reading.{IsSiteOf}
use Rattle.node_site.specs.Site as site_file
use Rattle.node_response.specs.Pieces.{pieces_digest}
use Rattle.node_request.specs.declared.representation.Representation.{Representation}
use Rattle.node_request.specs.declared.representation.Representation.TheVariants.{Text, Json, Html, Fragment, Sfx}

-- what the responses of a node depend on beside its releases and the day: the version of the program, for how many
-- seconds a cache may use a response, and the site file of the library, with its bytes
pub record SiteValue : Type 0 where
  pub version : List ℕ
  pub max_age : ℕ
  pub file : List ℕ
  pub library : site_file.SiteValue

-- the site with this holdings file
abbrev pub with_listing : List ℕ → SiteValue → SiteValue
with_listing text site = record site { library = site_file.with_listing text site.library }

-- a site of this version and these settings, with this site file
pub record IsSiteWith (version : List ℕ) (max_age : ℕ) (file : List ℕ) (site : SiteValue) : Type 0 where
  pub same_version : site.version ≡ version
  pub same_age : site.max_age ≡ max_age
  pub same_file : site.file ≡ file
  pub means : IsSiteOf file site.library

-- all that the body of a response depends on beside its request; a further setting that responses come to depend on
-- goes into the settings
pub record TagInputs : Type 0 where
  pub version : List ℕ
  pub settings : List ℕ
  pub file : List ℕ
  pub listing : List ℕ
  pub releases : List ℕ
  pub day : ℤ
  pub representation : Representation

-- the inputs of a node on a day, with a text that determines its active releases
abbrev pub inputs_of : SiteValue → TodayValue → List ℕ → Representation → TagInputs
inputs_of site today releases representation = record {
  version = site.version;
  settings = decimal site.max_age;
  file = site.file;
  listing = site.library.listing;
  releases = releases;
  day = today.day;
  representation = representation;
}

-- the byte that stands for a representation
abbrev pub kind_of : Representation → ℕ
kind_of Text = 116
kind_of Json = 106
kind_of Html = 104
kind_of Fragment = 102
kind_of Sfx = 120

-- a representation and a day's number
abbrev pub kind_and_day : Representation → ℤ → List ℕ
kind_and_day representation day = kind_of representation ∷ signed_decimal day

-- the digest of the digests of five texts. The last two texts are given by their digests: a node computes it when it starts,
-- and when its releases change
abbrev pub digest_of_digests : List ℕ → List ℕ → List ℕ → List ℕ → List ℕ → List ℕ
digest_of_digests version settings file listing releases =
    sha256 ((((sha256 version ++ sha256 settings) ++ sha256 file) ++ listing) ++ releases)

-- the same of five texts. That of the releases is by pieces, since a switch changes only one of many names
abbrev pub source_digest : List ℕ → List ℕ → List ℕ → List ℕ → List ℕ → List ℕ
source_digest version settings file listing releases =
    digest_of_digests version settings file (sha256 listing) (pieces_digest releases)

-- a digest, and a text
abbrev pub message_of : List ℕ → List ℕ → List ℕ
message_of source last = source ++ last

-- the digest of the texts, the representation and the day
abbrev pub tag_message : TagInputs → List ℕ
tag_message inputs =
    message_of (source_digest inputs.version inputs.settings inputs.file inputs.listing inputs.releases)
    (kind_and_day inputs.representation inputs.day)

-- bytes in hex, between quotation marks
abbrev pub quoted_hex : List ℕ → List ℕ
quoted_hex bytes = 34 ∷ (encode_lower bytes ++ 34 ∷ [])

-- the tag: a digest of all the inputs
unfoldable pub entity_tag : TagInputs → List ℕ
entity_tag inputs = quoted_hex (sha256 (tag_message inputs))
