use Rattle.std.proofs.Common.{◌∙◌, ap}
use Rattle.json_text.proofs.Texts.{whole_text}
use Rattle.json_text.proofs.text.JsonText.into_string.Goals as goal

pub returns : goal.returns
returns c = λ d e.
    let made = rw c.unwrap.ensures at c.from_utf8.ensures.ok in
    ap (λ v. v.items) made ∙ whole_text _ _ _ d c.into_inner.ensures.items c.self.invariant (c.self.view_is ∙ e)
