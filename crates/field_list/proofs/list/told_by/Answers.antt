use Rattle.std.proofs.Common.{refl, sym, ◌∙◌, ap}
use Rattle.std.specs.List.{fold, flat_map}
use Rattle.std.proofs.lemmas.Bool.{false≢true}
use Rattle.http_wire.proofs.FieldLemmas.{value_kept}
use Rattle.field_list.specs.List.{items_in}
use Rattle.field_list.proofs.ListLemmas.{told_added}
use Rattle.field_list.proofs.list.told_by.Goals as goal
use Rattle.field_list.proofs.list.told_by.Goals.{then-eq_ignore_ascii_case, else-eq_ignore_ascii_case}

pub fields-preserved : goal.fields-preserved
fields-preserved g c =
    let after = g.T.Told.after in
    elim c.if-eq_ignore_ascii_case.branch [
      | then-eq_ignore_ascii_case w ↦
          w.told-is ∙ w.told_in-told.ensures ∙ ap (λ t. fold after t (items_in c.line-header.result.value.now)) c.fields.invariant
          ∙ sym (told_added after c.args.start c.args.name.now (g.F.FieldLines.lines c.args.head.now) c.fields.i _ c.line-header.ensures (w.if-eq_ignore_ascii_case.ensures.test.0 refl))
      | else-eq_ignore_ascii_case w ↦
          w.told-is ∙ c.fields.invariant
          ∙ ap (λ values. fold after c.args.start (flat_map items_in values)) (sym (value_kept c.args.name.now (g.F.FieldLines.lines c.args.head.now) c.fields.i _ c.line-header.ensures (λ same. false≢true (w.if-eq_ignore_ascii_case.ensures.test.1 same))))
    ]
