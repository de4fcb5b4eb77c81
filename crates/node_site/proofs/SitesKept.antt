-- The sites of hosts after one was added.
use Rattle.std.proofs.Common.{◌≡◌, ◌∙◌, ℕ, ◌<◌, ◌≤◌, ◌&&◌, ◌+◌, Bool, true, false, cond, if◌then◌else◌, List, length}
use Rattle.std.proofs.Common.{Option, Some, None, is_some, Result, Ok, Err, OnOk, OnErr, nat_le, refl, sym, ap, arith}
use Rattle.std.proofs.lemmas.List.{length-map}
use Rattle.std.proofs.lemmas.Bool.{leb-true}
use Rattle.std.specs.List.{list_all}
use Rattle.std.specs.Option.{option_or}
use Rattle.std.specs.Global.{Vec}
use Rattle.std.specs.BTreeMap.{BTreeMap, IsUnchanged, UpdatesBy, get_by, is_at}
use Rattle.std.specs.Map.{lookup}
use Rattle.std.specs.Char.{to_ascii_lowercase}
use Rattle.std.specs.Cmp.Lexicographic.{bytes_decides}
use Rattle.std.specs.Str.{bytes_eq, str_eq_ignore_ascii_case, str_to_ascii_lowercase}
use Rattle.node_site.specs.Sites.{other_site}
use Rattle.node_site.specs.SitesLaws.{CaseDoesNotCount, OtherSiteDecides, OwnSiteDecides}
use Rattle.node_site.specs.Urls.{is_host, is_label, parts_between}
use Rattle.node_site.proofs.ByteKeys.{by, key_cmp, updated}

both_true : (s t : Bool) → (s && t) ≡ true → (s ≡ true) × (t ≡ true)
both_true true t h = (refl, h)
both_true false t h = cc

none_of : {X : Type 0} (o : Option X) → is_some o ≡ false → o ≡ None
none_of None h = refl
none_of (Some x) h = cc

-- the name of a host has at most 253 bytes
pub host_size : (host : List ℕ) → is_host host ≡ true → length host ≤ 253
host_size host named = leb-true (length host) 253 (both_true (nat_le (length host) 253) (list_all is_label (parts_between 46 host)) named).0

lower_size : (host : List ℕ) → length (str_to_ascii_lowercase host) ≡ length host
lower_size host = length-map host to_ascii_lowercase

-- a longer text is not this host
other_size : (host text : List ℕ) → length host < length text → bytes_eq host text ≡ false
other_size host text less = by_case (bytes_eq host text) refl
  where
    by_case : (b : Bool) → bytes_eq host text ≡ b → b ≡ false
    by_case true e = let same : length host ≡ length text = ap length ((bytes_decides host text).0 e) in absurd (omega (arith, less, same))
    by_case false e = refl

module _ {S : Type 0} (old new : BTreeMap (Vec ℕ) S) (site : S) (key host : List ℕ) (is : key ≡ str_to_ascii_lowercase host) (puts : UpdatesBy key_cmp (by key) old new (Some site)) where
  -- the host has the site, and each other host has its own
  pub added_own : (other : List ℕ) → get_by (by (str_to_ascii_lowercase other)) new
      ≡ cond (str_eq_ignore_ascii_case host other) (Some site) (get_by (by (str_to_ascii_lowercase other)) old)
  added_own other = updated old new (Some site) key (str_to_ascii_lowercase host) is puts (str_to_ascii_lowercase other)

  -- no text that is longer than the name of a host has a site
  pub stays_short : is_host host ≡ true → ((text : List ℕ) → 253 < length text → is_some (get_by (by text) old) ≡ false)
      → (text : List ℕ) → 253 < length text → is_some (get_by (by text) new) ≡ false
  stays_short named short text long =
      let size : length (str_to_ascii_lowercase host) < length text = omega (arith, lower_size host, host_size host named, long) in
      let other : bytes_eq (str_to_ascii_lowercase host) text ≡ false = other_size (str_to_ascii_lowercase host) text size in
      ap is_some (updated old new (Some site) key (str_to_ascii_lowercase host) is puts text) ∙ rw other (short text long)

-- a text that is longer than the name of a host has no site
pub long_has_none : {S : Type 0} (sites : BTreeMap (Vec ℕ) S) (host : List ℕ) → ((text : List ℕ) → 253 < length text → is_some (get_by (by text) sites) ≡ false)
    → 253 < length host → None ≡ get_by (by (str_to_ascii_lowercase host)) sites
long_has_none sites host short long =
    sym (none_of (get_by (by (str_to_ascii_lowercase host)) sites) (short (str_to_ascii_lowercase host) (omega (arith, lower_size host, long))))

-- whatever an insert returns, no text that is longer than the name of a host has a site
pub still_short : {S E : Type 0} (r : Result (Option S) E) (old new : BTreeMap (Vec ℕ) S) (site : S) (key host : List ℕ) → key ≡ str_to_ascii_lowercase host → is_host host ≡ true
    → OnOk r (UpdatesBy key_cmp (by key) old new (Some site)) → OnErr r (IsUnchanged old new)
    → ((text : List ℕ) → 253 < length text → is_some (get_by (by text) old) ≡ false)
    → (text : List ℕ) → 253 < length text → is_some (get_by (by text) new) ≡ false
still_short (Ok o) old new site key host is named puts same short = stays_short old new site key host is puts named short
still_short (Err e) old new site key host is named puts same short =
    λ text long. ap (λ (entries : List (Vec ℕ × _)). is_some (lookup (is_at (by text)) entries)) same ∙ short text long

-- a host that is not looked up has no site
pub no_site : {S : Type 0} (sites : BTreeMap (Vec ℕ) S) (host key : List ℕ) (given : Bool) → key ≡ str_to_ascii_lowercase host → given ≡ is_some (get_by (by key) sites)
    → given ≡ false → get_by (by (str_to_ascii_lowercase host)) sites ≡ None
no_site sites host key given is looked absent =
    none_of (get_by (by (str_to_ascii_lowercase host)) sites) (ap (λ (text : List ℕ). is_some (get_by (by text) sites)) (sym is) ∙ sym looked ∙ absent)

pub one_more : {S : Type 0} (o : Option S) (more less : ℕ) → more ≡ less + (if is_some o then 0 else 1) → o ≡ None → more ≡ less + 1
one_more o more less is absent = is ∙ ap (λ (o : Option _). less + (if is_some o then 0 else 1)) absent

-- what is looked up by the lower case of a host is its own site
pub own_by : {S : Type 0} (sites : BTreeMap (Vec ℕ) S) (host lower : List ℕ) → lower ≡ str_to_ascii_lowercase host
    → get_by (by lower) sites ≡ get_by (by (str_to_ascii_lowercase host)) sites
own_by sites host lower is = ap (λ (text : List ℕ). get_by (by text) sites) is

pub own_decides : {S : Type 0} → OwnSiteDecides S
own_decides one other host site here there = ap (λ (o : Option _). option_or o (other_site one)) here ∙ sym (ap (λ (o : Option _). option_or o (other_site other)) there)

pub other_decides : {S : Type 0} → OtherSiteDecides S
other_decides one other host here there same =
    ap (λ (o : Option _). option_or o (other_site one)) here ∙ same ∙ sym (ap (λ (o : Option _). option_or o (other_site other)) there)

pub no_case : {S : Type 0} → CaseDoesNotCount S
no_case sites host other alike =
    let lower : str_to_ascii_lowercase host ≡ str_to_ascii_lowercase other = (bytes_decides (str_to_ascii_lowercase host) (str_to_ascii_lowercase other)).0 alike in
    ap (λ (text : List ℕ). option_or (get_by (by text) sites.by_host) (other_site sites)) lower
