use Rattle.std.proofs.Common.{◌≡◌, take, true}
use Rattle.std.specs.Prelude.{not}
use Rattle.std.specs.List.{list_all}
use Rattle.feed_http_heads.specs.Fields.{has_other_name_or}
use Rattle.feed_http_heads.specs.Options.{lists}
use Rattle.feed_http_heads.proofs.fields.Fields.lacks_option.Given as goal

abbrev pub invariant-loop-header : goal.invariant-loop-header
invariant-loop-header l = list_all (has_other_name_or (λ value. not (lists l.option value)) l.self.buffer.now l.name) (take l.header-index l.self.headers.now) ≡ true
