use Rattle.std.proofs.Common.{◌≡◌, ◌∷◌, ◌++◌, [], List, length, sym, ◌∙◌, ap, ℕ, cond, Some, arith}
use Rattle.std.specs.HashMap.{get}
use Rattle.location_acl.specs.declared.line.PlaceLine.{PlaceLine}
use Rattle.location_acl.specs.declared.table.Index.{Index}
use Rattle.location_acl.specs.Table.{same_key}
use Rattle.location_acl.proofs.TableLemmas.{indexed_more, found_inserted, found_present}
use Rattle.location_acl.proofs.table.Index.add.Goals as goal
use Rattle.location_acl.proofs.table.Index.add.Goals.{then-not-contains_key+in_ok-insert, else-not-contains_key}

pub returns-clause-indexed : goal.returns-clause-indexed
returns-clause-indexed c =
    let fits = c.requires.fits in
    let old : List PlaceLine = c.args.self.now.lines.items in
    let pushed = c.in_ok-push.ensures.items in
    elim c.if-not-contains_key.branch [
      | then-not-contains_key+in_ok-insert w ↦
          let lines : c.push.new.self.items ≡ old ++ c.args.line ∷ [] = pushed ∙ ap (λ (s : Index). s.lines.items ++ c.args.line ∷ []) w.self-is in
          rw w.self-is (indexed_more old c.push.new.self.items (get same_key c.args.self.now.firsts) (get same_key w.insert.new.self) c.args.self.now.lengths c.args.line c.key_of-key.result c.requires.indexed fits c.key_of-key.ensures lines
          (found_inserted (get same_key c.args.self.now.firsts) (get same_key w.insert.new.self) c.key_of-key.result (length old) (sym c.contains_key.ensures ∙ w.if-not-contains_key.true) (λ q. w.in_ok-insert.ensures.updates.0 q ∙ ap (λ (n : ℕ). cond (same_key c.key_of-key.result q) (Some n) (get same_key c.args.self.now.firsts q)) (omega (arith, w.len.ensures, c.args.self.now.lines.ok.0)))))
      | else-not-contains_key w ↦
          let lines : c.push.new.self.items ≡ old ++ c.args.line ∷ [] = pushed ∙ ap (λ (s : Index). s.lines.items ++ c.args.line ∷ []) w.self-is in
          rw w.self-is (indexed_more old c.push.new.self.items (get same_key c.args.self.now.firsts) (get same_key c.args.self.now.firsts) c.args.self.now.lengths c.args.line c.key_of-key.result c.requires.indexed fits c.key_of-key.ensures lines
          (found_present (get same_key c.args.self.now.firsts) c.key_of-key.result (length old) (sym c.contains_key.ensures ∙ w.if-not-contains_key.false)))
    ]
