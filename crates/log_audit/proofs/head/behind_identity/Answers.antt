use Rattle.std.proofs.Common.{◌∙◌}
use Rattle.log_audit.specs.declared.place.Place.TheVariants as place
use Rattle.log_audit.proofs.HeadLemmas.{reach_on, reach_start}
use Rattle.log_audit.proofs.head.behind_identity.Goals as goal

pub returns-in_default-behind-clause-bad : goal.returns-in_default-behind-clause-bad
returns-in_default-behind-clause-bad c =
    let one = reach_on c.args.text.now c.args.text.now c.in-Some.text.now 1 place.Version place.Uuid (reach_start c.args.text.now) c.in-Some.ensures in
    one.bad ∙ c.in_default-behind.ensures 2

pub returns-in_default-behind-2-clause-bad : goal.returns-in_default-behind-2-clause-bad
returns-in_default-behind-2-clause-bad c =
    let one = reach_on c.args.text.now c.args.text.now c.in-Some.text.now 1 place.Version place.Uuid (reach_start c.args.text.now) c.in-Some.ensures in
    let two = reach_on c.args.text.now c.in-Some.text.now c.in-Some-behind.text.now 2 place.Uuid place.Origin one c.in-Some-behind.ensures in
    two.bad ∙ c.in_default-behind-2.ensures 3

pub returns-in_default-behind-3-clause-bad : goal.returns-in_default-behind-3-clause-bad
returns-in_default-behind-3-clause-bad c =
    let one = reach_on c.args.text.now c.args.text.now c.in-Some.text.now 1 place.Version place.Uuid (reach_start c.args.text.now) c.in-Some.ensures in
    let two = reach_on c.args.text.now c.in-Some.text.now c.in-Some-behind.text.now 2 place.Uuid place.Origin one c.in-Some-behind.ensures in
    let three = reach_on c.args.text.now c.in-Some-behind.text.now c.in-Some-behind-2.text.now 3 place.Origin place.Kind two c.in-Some-behind-2.ensures in
    three.bad ∙ c.in_default-behind-3.ensures 4

pub returns-clause-rest : goal.returns-clause-rest
returns-clause-rest c =
    let one = reach_on c.args.text.now c.args.text.now c.in-Some.text.now 1 place.Version place.Uuid (reach_start c.args.text.now) c.in-Some.ensures in
    let two = reach_on c.args.text.now c.in-Some.text.now c.in-Some-behind.text.now 2 place.Uuid place.Origin one c.in-Some-behind.ensures in
    let three = reach_on c.args.text.now c.in-Some-behind.text.now c.in-Some-behind-2.text.now 3 place.Origin place.Kind two c.in-Some-behind-2.ensures in
    reach_on c.args.text.now c.in-Some-behind-2.text.now c.in-Some-behind-3.text.now 4 place.Kind place.Fields three c.in-Some-behind-3.ensures
