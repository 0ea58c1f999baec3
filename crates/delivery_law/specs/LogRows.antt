-- Rows by their positions: which delivery each is of, and what it says.
use Rattle.std.specs.Prelude.{◌≡◌, ℕ, ◌-◌, ◌<◌, Bool, true, false, List, None, Some}
use Rattle.std.specs.List.{slice_get}
use Rattle.std.specs.declared.option.Option.{Option}
use Rattle.metadata_objects.specs.LevelData.{Index}
use Rattle.targets.specs.Target.{url_text}
use Rattle.targets.specs.declared.target.Target.{Target}
use Rattle.history.specs.After.{begun_delivery, is_secure}
use Rattle.history.specs.Event.{History, Admit, Finish, Request}
use Rattle.history.specs.History.{AnsweredAt}
use Rattle.history.specs.Metadata.{ccid_at}
use Rattle.history.specs.World.{Made, Recorded}
use Rattle.history.specs.declared.reply.Reply.{Reply}
use Rattle.history.specs.declared.reply.Reply.TheVariants as reply
use Rattle.delivery_law.specs.Fetches.{index_after}

-- the collection that the row of a delivery names that was admitted so: that of its target, and none where it is denied
abbrev pub named_ccid : Option Index → Target → Reply → Option (List ℕ)
named_ccid index target (reply.Denied delivery rule) = None
named_ccid index target _ = ccid_at index target

-- what the delivery has was kept
abbrev pub was_kept : Reply → Bool
was_kept (reply.Hit delivery fetch kind body) = true
was_kept _ = false

-- the row is that of one delivery: it was admitted at the position that the row names, and the same pass finished it
-- later, at the row's own position, and was told this number; the row says what the request and these two calls said
pub record IsOfOneDelivery (made : Made) (h : History) (number : ℕ) (one : Recorded) : Type 0 where
  pub pass : ℕ
  pub in_order : one.admitted < one.at
  pub request : Request
  pub moment : ℕ
  pub answer : Reply
  pub admitted : AnsweredAt made h one.admitted (pass, Admit request moment) answer
  pub delivery : begun_delivery answer ≡ Some one.delivery
  pub status : ℕ
  pub total : ℕ
  pub entity : ℕ
  pub end : ℕ
  pub finished : AnsweredAt made h one.at (pass, Finish one.delivery status total entity end) (reply.Logged number)
  pub row : one.row ≡ record {
    admitted = moment;
    finished = end;
    asn = request.place.asn;
    method = request.asked.method;
    uri = url_text (is_secure request.asked.protocol) request.asked.target;
    status = status;
    total = total;
    entity = entity;
    ccid = named_ccid (index_after made admitted.before) request.asked.target answer;
    cached = was_kept answer;
    extra = request.extra;
  }

-- there is a row under this number, of this delivery, that was finished so at this position
pub record HasRow (rows : List Recorded) (number at delivery status total entity end : ℕ) : Type 0 where
  pub one : Recorded
  pub is : slice_get rows (number - 1) ≡ Some one
  pub position_is : one.at ≡ at
  pub delivery_is : one.delivery ≡ delivery
  pub status_is : one.row.status ≡ status
  pub total_is : one.row.total ≡ total
  pub entity_is : one.row.entity ≡ entity
  pub finished_is : one.row.finished ≡ end
