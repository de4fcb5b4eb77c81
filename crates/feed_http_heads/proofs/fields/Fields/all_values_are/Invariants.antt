use Rattle.std.proofs.Common.{◌≡◌, take, true}
use Rattle.std.specs.List.{list_all}
use Rattle.std.specs.Str.{str_eq_ignore_ascii_case}
use Rattle.feed_http_heads.specs.Fields.{has_other_name_or}
use Rattle.feed_http_heads.proofs.fields.Fields.all_values_are.Given as goal

abbrev pub invariant-loop-header : goal.invariant-loop-header
invariant-loop-header l = list_all (has_other_name_or (λ value. str_eq_ignore_ascii_case value l.text) l.self.buffer.now l.name) (take l.header-index l.self.headers.now) ≡ true
