use Rattle.std.proofs.Common.{rules, ◌≡◌, ◌++◌, ◌∷◌, [], length, ap, arith, length-append}
use Rattle.locked_doc.proofs.Counted.{opened_more}
use Rattle.locked_doc.proofs.ledgers.open_all.Goals as goal

pub loop-k-preserved : goal.loop-k-preserved
loop-k-preserved g c =
    let so_far = c.loop-k.invariant in
    let book = c.open-book.result.0 in
    let share = c.open-book.result.1 in
    let kept : c.push_back.new.self.items ≡ c.loop-k.unopened.items ++ share ∷ [] = search rules in
    record {
      table = omega (arith, c.open-book.ensures.table);
      books = opened_more c.args.number c.loop-k.books.items c.push_reserved.new.self.items book c.loop-k.k so_far.books_are c.push_reserved.ensures.items c.open-book.ensures.book so_far.books;
      kept = opened_more c.args.number c.loop-k.unopened.items c.push_back.new.self.items share c.loop-k.k so_far.kept_are kept c.open-book.ensures.share so_far.kept;
      books_are = omega (arith, so_far.books_are, ap length c.push_reserved.ensures.items, length-append c.loop-k.books.items (book ∷ []));
      kept_are = omega (arith, so_far.kept_are, ap length kept, length-append c.loop-k.unopened.items (share ∷ []));
      books_room = search rules;
      kept_room = search rules;
    }
