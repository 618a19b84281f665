use Rattle.std.proofs.Common.{rules, tests, ap, ◌∙◌, take}
use Rattle.std.specs.List.{list_all}
use Rattle.std.proofs.lemmas.Iterator.{YieldsList-from_slice}
use Rattle.std.proofs.lemmas.Iterator.Search.{all_from_yields_List}
use Rattle.image_forms.specs.Forms.{keeps}
use Rattle.image_write.specs.Written.{loses_nothing}
use Rattle.panels.proofs.Laws.{held_first}
use Rattle.image_write.proofs.loses_nothing.Goals as goal

pub returns : goal.returns
unfolding loses_nothing
returns c =
    let held = held_first _ c.panels_of-places.ensures c.count_of.ensures in
    all_from_yields_List _ _ _ c.all.result c.all.ensures.ran (YieldsList-from_slice (take c.count_of.result c.panels_of-places.result) cc) (λ x b q k. search (rules, tests))
    ∙ ap (list_all (λ p. keeps c.args.form p.profile p.values)) held
