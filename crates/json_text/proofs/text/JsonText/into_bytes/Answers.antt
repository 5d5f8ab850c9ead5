use Rattle.std.proofs.Common.{◌∙◌}
use Rattle.json_text.proofs.Texts.{whole_text}
use Rattle.json_text.proofs.text.JsonText.into_bytes.Goals as goal

pub returns : goal.returns
returns c = λ d e. whole_text _ _ _ d c.into_inner.ensures.items c.self.invariant (c.self.view_is ∙ e)
