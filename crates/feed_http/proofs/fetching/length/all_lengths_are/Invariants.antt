use Rattle.std.proofs.Common.{◌≡◌, take, true}
use Rattle.std.specs.List.{list_all}
use Rattle.feed_http_heads.specs.Fields.{has_other_name_or}
use Rattle.feed_http.specs.Announcements.{is_length_value, content_length}
use Rattle.feed_http.proofs.fetching.length.all_lengths_are.Given as goal

abbrev pub invariant-loop-header : goal.invariant-loop-header
invariant-loop-header l = list_all (has_other_name_or (is_length_value l.size) l.found.buffer.now content_length) (take l.header-index l.found.headers.now) ≡ true
