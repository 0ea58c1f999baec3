use Rattle.std.proofs.Common.{◌<◌, ℕ, List, None, IfSome, slice_get, set, length, sym, ap, subst, ◌∙◌}
use Rattle.rows.specs.Cells.{AreTied, cells_of, relinked}
use Rattle.rows.proofs.CellLemmas.{taken, relinked_within}
use Rattle.rows.proofs.cells.take_entry.Goals as goal

pub relink-requires : goal.relink-requires
relink-requires g c =
    let d : g.row.T.Denot × ℕ = (c.in_ok-object.object, c.in_ok-object.field-0-1) in
    subst (λ (es : List (g.row.T.Denot × ℕ)). IfSome (slice_get es c.args.index) (λ e. e.1 < length (set c.args.log.now.items c.args.p None)))
    (sym c.in_ok-object.ensures.entries)
    (relinked_within c.args.objects.now.entries c.args.log.now.items c.requires.tied c.args.p c.args.index c.requires.there d)

pub returns-clause-tied : goal.returns-clause-tied
returns-clause-tied g c =
    let d : g.row.T.Denot × ℕ = (c.in_ok-object.object, c.in_ok-object.field-0-1) in
    let gone = set c.args.log.now.items c.args.p None in
    subst (λ (es : List (g.row.T.Denot × ℕ)). AreTied es c.relink.new.log.items) (sym c.in_ok-object.ensures.entries)
    (taken c.args.objects.now.entries c.args.log.now.items c.requires.tied c.args.p c.args.index c.requires.there d c.relink.new.log.items
    (c.relink.ensures.items ∙ ap (λ (es : List (g.row.T.Denot × ℕ)). relinked (slice_get es c.args.index) c.args.index gone) c.in_ok-object.ensures.entries)).0

pub returns-clause-cells : goal.returns-clause-cells
returns-clause-cells g c =
    let d : g.row.T.Denot × ℕ = (c.in_ok-object.object, c.in_ok-object.field-0-1) in
    let gone = set c.args.log.now.items c.args.p None in
    ap (λ (es : List (g.row.T.Denot × ℕ)). cells_of es c.relink.new.log.items) c.in_ok-object.ensures.entries
    ∙ (taken c.args.objects.now.entries c.args.log.now.items c.requires.tied c.args.p c.args.index c.requires.there d c.relink.new.log.items
    (c.relink.ensures.items ∙ ap (λ (es : List (g.row.T.Denot × ℕ)). relinked (slice_get es c.args.index) c.args.index gone) c.in_ok-object.ensures.entries)).1
