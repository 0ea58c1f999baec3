use Rattle.std.proofs.Common.{◌≡◌, ◌-◌, ◌+◌, [], ◌∷◌, sym, ap, ◌∙◌, subst}
use Rattle.std.proofs.lemmas.List.Elements.{All-push, All-same}
use Rattle.turn_cell.specs.History.{numbers_from}
use Rattle.turn_cell.specs.View.{maker_with}
use Rattle.turn_cell.specs.Cell.{number_of, numbers_of, seen_of, IsOf}
use Rattle.turn_cell.proofs.Seats.{numbered_push}
use Rattle.turn_cell.proofs.cell.TurnCell.make_passes.Goals as goal

pub loop-number-preserved : goal.loop-number-preserved
loop-number-preserved g c =
    let i = c.loop-number.invariant in
    let p = c.make_pass-pass.ensures in
    let n = c.loop-number.number in
    let cell = c.args.self.now in
    let pass = c.make_pass-pass.result in
    let list = c.loop-number.list in
    let pushed = c.in_ok-push.ensures.ok in
    record {
      seat = (p.seat.0 ∙ i.seat.0, p.seat.1);
      left = subst (λ k. c.make_pass-pass.new.seat.me ≡ (maker_with k (numbers_from (n + 1) (k - (n + 1))), [])) c.requires.count p.numbers;
      numbered = numbered_push list _ pass n pushed p.number i.numbered;
      cell = All-same (λ q. IsOf cell q) _ _ pushed (All-push (λ q. IsOf cell q) list pass i.cell p.pass);
      own = All-same (λ q. numbers_of q ≡ number_of q ∷ []) _ _ pushed (All-push (λ q. numbers_of q ≡ number_of q ∷ []) list pass i.own (p.own ∙ ap (λ k. k ∷ []) (sym p.number)));
      unseen = All-same (λ q. seen_of q ≡ []) _ _ pushed (All-push (λ q. seen_of q ≡ []) list pass i.unseen p.unseen);
    }
