use Rattle.std.proofs.Common.{◌≡◌, true, sym, ◌∙◌}
use Rattle.epochs.specs.EpochsList.{is_front_up_to}
use Rattle.epochs.proofs.ChainLemmas.{chained_left, cut_more, front_popped, front_some}
use Rattle.epochs.proofs.chains.Chains.forget.Goals as goal

pub starts-preserved : goal.starts-preserved
starts-preserved c =
    let old : is_front_up_to c.args.oldest c.starts.self.starts.items ≡ true = sym c.is_front_forgotten.ensures ∙ c.starts-test.true in
    record {
      starts = front_popped c.args.oldest c.starts.self.starts.items c.pop_front.new.self.items old c.pop_front.ensures.rest ∙ c.starts.invariant.starts;
      cut = cut_more c.args.self.now c.starts.self _ c.starts.invariant.cut (front_some c.args.oldest c.starts.self.starts.items old) c.pop_front.ensures.rest c.pop_front-in-starts.ensures.rest;
      last = c.starts.invariant.last;
      room = c.pop_front.ensures.capacity ∙ c.starts.invariant.room;
      link_room = c.pop_front-in-starts.ensures.capacity ∙ c.starts.invariant.link_room;
    }

pub returns-clause-whole : goal.returns-clause-whole
returns-clause-whole c newest unchained whole = let cut = c.starts.invariant.cut in
    rw (cut.starts, cut.links, c.starts.invariant.last)
    (chained_left cut.n c.args.self.now.starts.items c.args.self.now.links.items c.args.self.now.last.items newest unchained cut.within whole)
