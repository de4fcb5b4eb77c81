-- The sections of a site file, and the kind of value of each key.
use Rattle.std.specs.Prelude.{ℕ, Bool, true, false, List, [], ◌∷◌, Option, Some, None, if◌then◌else◌, codes}
use Rattle.std.specs.Str.{bytes_eq}
use Rattle.node_site.specs.Limits.{site_limit}
use Rattle.node_site.specs.Words.{is_name}
use Rattle.node_site.specs.declared.kind.ValueKind.{ValueKind}
use Rattle.node_site.specs.declared.kind.ValueKind.TheVariants.{Text, Note, Language, Color, Url, Template, Article, Prefix, Occasion, Package as PackageName}
use Rattle.node_site.specs.declared.kind.ValueKind.TheVariants.{FileName, Host, Date, Switch, Hosts}
use Rattle.node_site.specs.declared.section.Section.{Section}
use Rattle.node_site.specs.declared.section.Section.TheVariants.{Library, Texts, Proxy, Platform, Package, Title, Link}

-- the section of a key at the top of the file
abbrev pub section_of : List ℕ → Option Section
section_of key =
    if bytes_eq key (codes "library") then Some Library
    else if bytes_eq key (codes "texts") then Some Texts
    else if bytes_eq key (codes "proxy") then Some Proxy
    else if bytes_eq key (codes "platform") then Some Platform
    else if bytes_eq key (codes "package") then Some Package
    else if bytes_eq key (codes "title") then Some Title
    else if bytes_eq key (codes "link") then Some Link
    else None

-- a section is a list of tables
abbrev pub is_list : Section → Bool
is_list Library = false
is_list Texts = false
is_list Proxy = false
is_list Platform = true
is_list Package = true
is_list Title = true
is_list Link = true

-- the most tables of a section. Those about packages and titles have no limit but that of the file
abbrev pub table_limit : Section → ℕ
table_limit Platform = 256
table_limit Link = 20
table_limit section = site_limit

-- the keys of `[library]`
abbrev pub library_kind : List ℕ → Option ValueKind
library_kind key =
    if bytes_eq key (codes "name") then Some Text
    else if bytes_eq key (codes "language") then Some Language
    else if bytes_eq key (codes "color") then Some Color
    else if bytes_eq key (codes "help") then Some Url
    else if bytes_eq key (codes "contact") then Some Url
    else if bytes_eq key (codes "request") then Some Template
    else if bytes_eq key (codes "redirect_sole_hit") then Some Switch
    else if bytes_eq key (codes "held") then Some Switch
    else if bytes_eq key (codes "holdings") then Some FileName
    else None

-- the keys of `[texts]`: the names of the texts of the pages
abbrev pub texts_kind : List ℕ → Option ValueKind
texts_kind key = if is_name key then Some Text else None

-- the keys of `[proxy]`
abbrev pub proxy_kind : List ℕ → Option ValueKind
proxy_kind key =
    if bytes_eq key (codes "prefix") then Some Prefix
    else if bytes_eq key (codes "encode") then Some Switch
    else if bytes_eq key (codes "except") then Some Hosts
    else None

-- the keys of `[[platform]]`
abbrev pub platform_kind : List ℕ → Option ValueKind
platform_kind key =
    if bytes_eq key (codes "host") then Some Host
    else if bytes_eq key (codes "article") then Some Article
    else if bytes_eq key (codes "prefix") then Some Prefix
    else if bytes_eq key (codes "encode") then Some Switch
    else None

-- the keys that say what the library has of a package or a title
abbrev pub holding_kind : List ℕ → Option ValueKind
holding_kind key =
    if bytes_eq key (codes "held") then Some Switch
    else if bytes_eq key (codes "first") then Some Date
    else if bytes_eq key (codes "last") then Some Date
    else None

-- the keys of `[[package]]`
abbrev pub package_kind : List ℕ → Option ValueKind
package_kind key =
    if bytes_eq key (codes "id") then Some PackageName
    else if bytes_eq key (codes "name") then Some Text
    else if bytes_eq key (codes "article") then Some Article
    else if bytes_eq key (codes "note") then Some Note
    else if bytes_eq key (codes "proxy") then Some Switch
    else holding_kind key

-- the keys of `[[title]]`
abbrev pub title_kind : List ℕ → Option ValueKind
title_kind key =
    if bytes_eq key (codes "package") then Some PackageName
    else if bytes_eq key (codes "id") then Some Text
    else if bytes_eq key (codes "note") then Some Note
    else holding_kind key

-- the keys of `[[link]]`
abbrev pub link_kind : List ℕ → Option ValueKind
link_kind key =
    if bytes_eq key (codes "label") then Some Text
    else if bytes_eq key (codes "address") then Some Template
    else if bytes_eq key (codes "when") then Some Occasion
    else None

-- the kind of value of a key in a section
abbrev pub kind_of : Section → List ℕ → Option ValueKind
kind_of Library key = library_kind key
kind_of Texts key = texts_kind key
kind_of Proxy key = proxy_kind key
kind_of Platform key = platform_kind key
kind_of Package key = package_kind key
kind_of Title key = title_kind key
kind_of Link key = link_kind key

-- the keys that a table of a section must have
abbrev pub required : Section → List (List ℕ)
required Library = []
required Texts = []
required Proxy = codes "prefix" ∷ []
required Platform = codes "host" ∷ []
required Package = codes "id" ∷ []
required Title = codes "package" ∷ codes "id" ∷ []
required Link = codes "label" ∷ codes "address" ∷ []
