use Rattle.std.proofs.Common.{◌<◌, ◌^◌, ℕ, ap, ◌∙◌, ◌++◌, subst}
use Rattle.std.proofs.lemmas.Result.{on_ok_weaker}
use Rattle.node_response.specs.Responses.{ResponseValue, status_line, status_field, status_code, is_bodiless, content_fields, tag_field, last_fields}
use Rattle.node_response.proofs.Written.{head_written}
use Rattle.node_response.proofs.response.Response.put_head.Goals as goal

pub returns-clause-text : goal.returns-clause-text
returns-clause-text c = on_ok_weaker c.put_last.result
    (λ sixth. head_written c.args.keeps c.args.out.now.items c.put_status_line.new.out.items c.put_status_field.new.out.items c.put_content.new.out.items
    c.put_tag.new.out.items c.put_cache.new.out.items c.put_last.new.out.items c.args.self.now c.size-size.result c.age-age.result
    c.size-size.ensures c.age-age.ensures
    (c.in_ok-put_status_line.ensures ∙ ap (λ (r : ResponseValue). c.args.out.now.items ++ status_line r.status) c.self.view_is)
    (c.in_ok-put_status_field.ensures ∙ ap (λ l. c.put_status_line.new.out.items ++ status_field c.self.inside.status l) c.location-location.ensures
    ∙ ap (λ (r : ResponseValue). c.put_status_line.new.out.items ++ status_field r.status c.args.self.now.location) c.self.view_is)
    (c.in_ok-put_content.ensures
    ∙ ap (λ (r : ResponseValue). c.put_status_field.new.out.items ++ content_fields (is_bodiless (status_code r.status)) r.representation c.size-size.result) c.self.view_is)
    (c.in_ok-put_tag.ensures ∙ ap (λ t. c.put_content.new.out.items ++ tag_field t) c.tag-tag.ensures)
    c.in_ok-put_cache.ensures
    (sixth ∙ ap (λ (r : ResponseValue). c.put_cache.new.out.items ++ last_fields c.args.keeps r.representation r.redirects) c.self.view_is))
    c.put_last.ensures

pub returns-clause-size : goal.returns-clause-size
returns-clause-size c = on_ok_weaker c.put_last.result (λ sixth. subst (λ (n : ℕ). n < 2 ^ 64) c.size-size.ensures c.size-size.type_inv) c.put_last.ensures

pub returns-clause-age : goal.returns-clause-age
returns-clause-age c = on_ok_weaker c.put_last.result (λ sixth. subst (λ (n : ℕ). n < 2 ^ 64) c.age-age.ensures c.age-age.type_inv) c.put_last.ensures
