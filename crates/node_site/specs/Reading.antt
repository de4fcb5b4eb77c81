-- Which bytes are a site file, and why others are not.
use Rattle.std.specs.Prelude.{◌≡◌, ℕ, ◌≤◌, ◌<◌, List, [], ◌++◌, length, codes, Option, Some, None, IsUtf8}
use Rattle.std.specs.Fmt.{decimal}
use Rattle.toml.specs.Data.{Members}
use Rattle.toml.specs.Parse.{parse_document}
use Rattle.node_site.specs.declared.site_fault.SiteFault.{SiteFault}
use Rattle.node_site.specs.declared.site_fault.SiteFault.TheVariants.{Memory, TooLong, NotUtf8, Syntax, Key}
use Rattle.node_site.specs.KeyFaults.{KeyFaultValue}
use Rattle.node_site.specs.Faults.{MisfitValue, fault_of}
use Rattle.node_site.specs.Limits.{site_limit}
use Rattle.node_site.specs.Syntax.{IsSyntaxFault}
use Rattle.node_site.specs.Site.{SiteValue, site_of}

-- the bytes are the TOML text of this document, within the limit
pub record IsDocument (bytes : List ℕ) (doc : Members) : Type 0 where
  pub fits : length bytes ≤ site_limit
  pub utf8 : IsUtf8 bytes
  pub parsed : parse_document bytes ≡ Some doc

-- the bytes are the text of this site: a document in which no key is wrong
pub record IsSiteOf (bytes : List ℕ) (site : SiteValue) : Type 0 where
  pub doc : Members
  pub is_document : IsDocument bytes doc
  pub is_fine : fault_of doc ≡ None
  pub means : site ≡ site_of doc

-- `[3]`
abbrev pub number_text : Option ℕ → List ℕ
number_text None = []
number_text (Some number) = codes "[" ++ decimal number ++ codes "]"

-- `.prefix`
abbrev pub key_text : Option (List ℕ) → List ℕ
key_text None = []
key_text (Some key) = codes "." ++ key

-- the path of a fault's key, such as `proxy.prefix` or `package[2].first`
abbrev pub path_text : MisfitValue → List ℕ
path_text misfit = ((misfit.place.section ++ number_text misfit.place.row) ++ key_text misfit.key) ++ number_text misfit.item

-- the bytes are a document whose first fault is this
pub record IsKeyFault (bytes : List ℕ) (fault : KeyFaultValue) : Type 0 where
  pub doc : Members
  pub is_document : IsDocument bytes doc
  pub misfit : MisfitValue
  pub is_first : fault_of doc ≡ Some misfit
  pub path : fault.path ≡ path_text misfit
  pub reason : fault.reason ≡ misfit.reason

-- why some bytes are not read as a site: the length is checked first, then UTF-8, then TOML, then the keys; `Memory` is an
-- allocation failure
abbrev pub IsSiteFault : List ℕ → SiteFault → Type 0
IsSiteFault bytes TooLong = site_limit < length bytes
IsSiteFault bytes NotUtf8 = (length bytes ≤ site_limit) × ¬ IsUtf8 bytes
IsSiteFault bytes (Syntax position) = (length bytes ≤ site_limit) × IsUtf8 bytes × IsSyntaxFault bytes position
IsSiteFault bytes (Key fault) = IsKeyFault bytes fault
IsSiteFault bytes Memory = (length bytes ≤ site_limit) × IsUtf8 bytes
