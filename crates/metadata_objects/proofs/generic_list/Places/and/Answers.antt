use Rattle.std.proofs.Common.{[], ◌∷◌, ◌++◌}
use Rattle.metadata_objects.specs.GenericList.{kind_name, IsFirstAt, place_of}
use Rattle.metadata_objects.specs.declared.generic_list.Understood.TheVariants as understood
use Rattle.metadata_objects.proofs.FirstLemmas.{of_each}
use Rattle.metadata_objects.proofs.generic_list.Places.and.Goals as goal

pub returns : goal.returns
returns c = λ items long before. of_each (λ kind. IsFirstAt (kind_name kind) (items ++ c.args.object.now ∷ []) (place_of (record {
  source = c.first_of.result;
  location = c.first_of-2.result;
  time = c.first_of-3.result;
  protocol = c.first_of-4.result;
  cache = c.first_of-5.result;
  grouping = c.first_of-6.result;
}) kind))
    (c.first_of.ensures items long (before understood.Source)) (c.first_of-2.ensures items long (before understood.Location))
    (c.first_of-3.ensures items long (before understood.Time)) (c.first_of-4.ensures items long (before understood.Protocol))
    (c.first_of-5.ensures items long (before understood.Cache)) (c.first_of-6.ensures items long (before understood.Grouping))
