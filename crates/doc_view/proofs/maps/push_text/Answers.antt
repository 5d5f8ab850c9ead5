use Rattle.std.proofs.Common.{◌≡◌, [], ◌∷◌, ◌++◌, rules, sym, append-nil}
use Rattle.doc_view.proofs.maps.push_text.Goals as goal

pub returns-in_ok-push : goal.returns-in_ok-push
returns-in_ok-push c =
    let pushed : c.push.new.self.items ≡ c.args.texts.now.items ++ c.in-Some.text.now ∷ [] = search rules in
    (c.in-Some.text.now ∷ [], c.in-Some.ensures, pushed)

pub returns-in_default : goal.returns-in_default
returns-in_default c = ([], (rw c.in_default.is at c.present_text.ensures), sym (append-nil c.args.texts.now.items))
