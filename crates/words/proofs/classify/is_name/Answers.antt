use Rattle.std.proofs.Common.{rules, tests}
use Rattle.std.proofs.lemmas.Iterator.{YieldsList-from_slice}
use Rattle.std.proofs.lemmas.Iterator.Search.{all_from_yields_List}
use Rattle.words.specs.Forms.{name_byte}
use Rattle.words.proofs.Shapes.{is_name_at}
use Rattle.words.proofs.classify.is_name.Goals as goal

pub returns-then-rest-lt-MAX_NAME : goal.returns-then-rest-lt-MAX_NAME
returns-then-rest-lt-MAX_NAME c =
    let all = all_from_yields_List name_byte c.all.new.self _ c.all.result c.all.ensures.ran (YieldsList-from_slice c.iter.result.rest.now cc) (λ x b q k. search (rules, tests)) in
    search (rules, is_name_at, all)
