use Rattle.std.proofs.Common.{◌≡◌, ℕ, false, Some, None, get_or, sym, subst, ◌∙◌}
use Rattle.rows.specs.Cells.{CellsSeen, AreApart}
use Rattle.rows.proofs.CellLemmas.{item_of, key_passes, apart_at, none_pass}
use Rattle.rows.proofs.cells.Cells.place_of.Goals as goal

pub returns-in-Some-get_index-clause-found : goal.returns-in-Some-get_index-clause-found
returns-in-Some-get_index-clause-found g c =
    let i = c.self.inside in
    let o = c.in-Some-get_index.field-0-0.now in
    let p = c.in-Some-get_index.place.now in
    let entry = sym c.in-Some-get_index.ensures.entry in (
      o,
      subst (λ (v : CellsSeen g.row.T.Denot). get_or v.cells p None ≡ Some o) c.self.view_is
          (item_of i.objects.entries i.log.items c.self.invariant c.in-Some.index p o entry),
      key_passes (g.Q.Equivalent.equivalent c.args.query) i.objects.entries c.in-Some.index o p (sym c.in-Some.ensures.index) entry,
    )

pub returns-in-Some-get_index-clause-apart : goal.returns-in-Some-get_index-clause-apart
returns-in-Some-get_index-clause-apart g c =
    let i = c.self.inside in
    let test = g.Q.Equivalent.equivalent c.args.query in
    subst (λ (v : CellsSeen g.row.T.Denot). AreApart test v.cells) c.self.view_is
    (apart_at i.objects.entries i.log.items c.self.invariant g.T.PartialEq.eq test
    (λ x y s t. sym (g.met.Q.Equivalent.respects_eq c.args.query x y s) ∙ t) c.in-Some.ensures.unique)

pub returns-in-None-clause-none : goal.returns-in-None-clause-none
returns-in-None-clause-none g c =
    let i = c.self.inside in
    let test = g.Q.Equivalent.equivalent c.args.query in
    subst (λ (v : CellsSeen g.row.T.Denot). (p : ℕ) (o : g.row.T.Denot) → get_or v.cells p None ≡ Some o → test o ≡ false) c.self.view_is
    (none_pass i.objects.entries i.log.items c.self.invariant test (sym c.in-None.ensures.found))

pub returns-in-None-clause-apart : goal.returns-in-None-clause-apart
returns-in-None-clause-apart g c =
    let i = c.self.inside in
    let test = g.Q.Equivalent.equivalent c.args.query in
    subst (λ (v : CellsSeen g.row.T.Denot). AreApart test v.cells) c.self.view_is
    (apart_at i.objects.entries i.log.items c.self.invariant g.T.PartialEq.eq test
    (λ x y s t. sym (g.met.Q.Equivalent.respects_eq c.args.query x y s) ∙ t) c.in-None.ensures.unique)
