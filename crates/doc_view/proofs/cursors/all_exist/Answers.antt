use Rattle.std.proofs.Common.{◌≡◌, ◌+◌, ◌&&◌, [], ◌∷◌, ◌++◌, List, take, drop, true, sym, ap, subst, ◌∙◌}
use Rattle.std.specs.Prelude.{IfSome}
use Rattle.list_laws.proofs.Reading.{take_read, drop_read}
use Rattle.doc_api.specs.Words.{Tagged}
use Rattle.op_core.specs.Shape.{key_of}
use Rattle.doc_tree.specs.Nodes.{tree_facts}
use Rattle.doc_rules.specs.Resolve.{is_short, exists_in, path_exists}
use Rattle.doc_view.specs.OnWay.{IsOnWay}
use Rattle.doc_view.proofs.OnWay.{known_longer}
use Rattle.doc_view.proofs.cursors.all_exist.Goals as goal

pub loop-depth-preserved : goal.loop-depth-preserved
loop-depth-preserved c =
    let tree = c.args.tree.now in
    let f = tree_facts tree in
    let path = c.args.path.now in
    let key = c.args.key.now in
    let i = c.loop-depth.depth in
    let t = c.index-path-depth.result in
    let more : take (i + 1) path ≡ take i path ++ t ∷ [] = take_read path i t c.loop-depth-test.true c.index-path-depth.is in
    let left : drop i path ≡ t ∷ drop (i + 1) path = drop_read path i t c.loop-depth-test.true c.index-path-depth.is in
    let here : true ≡ (is_short (key_of t) && exists_in f (take i path) (key_of t)) =
    c.if-not-exists_in.ensures.value ∙ ap (λ k. is_short k && exists_in f (take i path) k) c.key.ensures in (
      c.loop-depth.invariant.0
          ∙ ap (λ rest. path_exists f (take i path) rest key) left
          ∙ ap (λ b. b && path_exists f (take i path ++ t ∷ []) (drop (i + 1) path) key) (sym here)
          ∙ ap (λ p. path_exists f p (drop (i + 1) path) key) (sym more),
      subst (λ (p : List Tagged). IfSome c.exists_in.new.known (IsOnWay tree p)) (sym more) (known_longer tree (take i path) c.exists_in.new.known t c.exists_in.ensures.known),
    )
