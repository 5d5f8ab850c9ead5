use Rattle.std.proofs.Common.{◌≡◌, ◌<◌, ◌≤◌, inr, length, get_or, ap, sym, refl, rules, subst, ◌∙◌}
use Rattle.std.proofs.Math.Nat.{le-max_left, le-max_right}
use Rattle.session_core.proofs.Owners.{get-at, get-set_same}
use Rattle.server_core.proofs.Counting.{any_default, set_stays}
use Rattle.server_core.proofs.dues.raise.Goals as goal

pub returns-clause-there : goal.returns-clause-there
returns-clause-there c = λ yes.
    let dues = c.args.dues.now in
    let within : c.args.document < length dues = search rules in
    let at : c.document.result ≡ c.args.document = search rules in
    let first = c.index-dues-document.result in
    let second = c.index-dues-document-2.result in
    inr (
      c.raise.new.self,
      get-set_same dues c.args.document c.raise.new.self within,
      c.raise.ensures.document ∙ ap (λ d. d.document) (any_default dues c.args.document second first within) ∙ sym c.document.ensures ∙ at,
      subst (λ n. c.args.count ≤ n) (sym c.raise.ensures.count) (le-max_left c.args.count _),
    )

pub returns-clause-stay : goal.returns-clause-stay
returns-clause-stay c =
    let dues = c.args.dues.now in
    let within : c.args.document < length dues = search rules in
    let old = get_or dues c.args.document c.index-dues-document-2.result in
    set_stays dues c.args.document old c.raise.new.self
    (get-at dues c.args.document old c.index-dues-document-2.result refl within) c.raise.ensures.document
    (subst (λ n. old.count ≤ n) (sym c.raise.ensures.count) (le-max_right c.args.count old.count))
