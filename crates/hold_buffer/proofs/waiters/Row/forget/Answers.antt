use Rattle.std.proofs.Common.{◌≡◌, ◌==◌, rules, not, filter}
use Rattle.std.proofs.lemmas.Fn.{filter_same}
use Rattle.hold_buffer.proofs.waiters.Row.forget.Goals as goal

pub returns : goal.returns
returns c =
    let kept : c.retain.new.self.items ≡ filter (λ k. not (k == c.args.key)) c.self.inside.keys.items =
    filter_same _ (λ k. not (k == c.args.key)) _ (λ x b f' h. search rules) _ _ c.retain.ensures.filtered in
    rw (← c.self.view_is) kept
