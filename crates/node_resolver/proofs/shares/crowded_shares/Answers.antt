use Rattle.std.proofs.Common.{◌≡◌, ◌∙◌, ◌+◌, ◌/◌, ℕ, Bool, List, false, ap, arith, sym, count_by, nat_lt, nat_le, if◌then◌else◌}
use Rattle.std.specs.Prelude.{max, sum}
use Rattle.node_hits.specs.declared.shares.Shares.{Shares}
use Rattle.node_hits.specs.Shares.{equal_share, having_rows, left_by, row_limit, shares_of, widened}
use Rattle.node_resolver.specs.Answers.{row_counts}
use Rattle.node_resolver.proofs.shares.crowded_shares.Goals as goal

abbrev shares_with : ℕ → ℕ → Shares
shares_with share equal = record { rows = share; texts = equal }

abbrev swapped : (above : ℕ) → max above 1 ≡ max 1 above
swapped above = omega arith

-- a share that is widened by what is left is the share of each release if they have more rows than are looked at
abbrev crowded : (counts : List ℕ) (having equal left above most : ℕ)
    → nat_le (sum counts) row_limit ≡ false
    → having ≡ having_rows counts
    → equal ≡ equal_share having
    → left ≡ left_by equal counts
    → above ≡ count_by (λ rows. nat_lt equal rows) counts
    → most ≡ max above 1
    → shares_with (equal + left / most) equal ≡ shares_of counts
crowded counts having equal left above most crowds has equals rest more divisor =
    ap (λ (l : ℕ). shares_with (equal + l / most) equal) rest
    ∙ ap (λ (m : ℕ). shares_with (equal + left_by equal counts / m) equal) (divisor ∙ swapped above ∙ ap (λ (a : ℕ). max 1 a) more)
    ∙ ap (λ (e : ℕ). shares_with (widened e counts) e) (equals ∙ ap equal_share has)
    ∙ ap (λ (few : Bool). shares_with (if few then row_limit else widened (equal_share (having_rows counts)) counts) (equal_share (having_rows counts))) (sym crowds)

pub returns-clause-value : goal.returns-clause-value
returns-clause-value c = crowded (row_counts c.args.context.now.site.library c.args.query.now c.args.context.now.actives.actives)
    c.in_ok-having_rows.field-0 c.equal_share-texts.result c.in_ok-left.left c.in_ok-left.above c.max.result
    c.requires c.in_ok-having_rows.ensures c.equal_share-texts.ensures.value c.in_ok-left.ensures.left c.in_ok-left.ensures.above c.max.ensures
