-- Trigger status resources (RFC 8007, section 5.1.2). The members of an object stand in the order of their bytes.
use Rattle.std.specs.Prelude.{ℕ, ◌/◌, Bool, true, false, List, [], ◌∷◌, codes}
use Rattle.serde_json.specs.Data.{Data, number, unsigned, string, array, object, Items, no_items, item, Members}
use Rattle.serde_json.specs.Data.{no_members, member}
use Rattle.serde_json.specs.Written.{compact_text}
use Rattle.trigger_command.specs.Spec.{SpecParts}
use Rattle.trigger_command.specs.declared.spec.TriggerKind.{TriggerKind}
use Rattle.trigger_command.specs.declared.spec.TriggerKind.TheVariants.{Preposition, Invalidate, Purge}
use Rattle.trigger_status.specs.Items.{each_as, url_data, url_at, pattern_data, with_list}
use Rattle.trigger_status.specs.declared.job.Job.{Job}
use Rattle.trigger_status.specs.declared.job.JobStatus.{JobStatus}
use Rattle.trigger_status.specs.declared.job.JobStatus.TheVariants as status

-- RFC 8007, section 5.2.2
abbrev pub kind_name : TriggerKind → List ℕ
kind_name Preposition = codes "preposition"
kind_name Invalidate = codes "invalidate"
kind_name Purge = codes "purge"

-- RFC 8007, section 5.2.3
abbrev pub status_name : JobStatus → List ℕ
status_name status.Pending = codes "pending"
status_name status.Active = codes "active"
status_name status.Complete = codes "complete"
status_name status.Failed = codes "failed"
status_name status.Cancelling = codes "cancelling"
status_name status.Cancelled = codes "cancelled"

-- a trigger specification (RFC 8007, section 5.2.1), with the lists that are not empty
unfoldable pub trigger_data : SpecParts → Data
trigger_data spec =
    object (with_list (codes "content.ccid") (each_as string spec.selection.ccids)
    (with_list (codes "content.patterns") (each_as pattern_data spec.selection.content_patterns)
    (with_list (codes "content.urls") (each_as url_data spec.selection.content_urls)
    (with_list (codes "metadata.patterns") (each_as pattern_data spec.selection.metadata_patterns)
    (with_list (codes "metadata.urls") (each_as url_data spec.selection.metadata_urls)
    (member (codes "type") (string (kind_name spec.kind)) no_members))))))

-- the metadata could not be fetched (RFC 8007, sections 5.2.6 and 5.2.7)
unfoldable pub emeta_data : SpecParts → Data
emeta_data spec = object (member (codes "error") (string (codes "emeta"))
    (member (codes "metadata.urls") (array (each_as url_data spec.selection.metadata_urls)) no_members))

-- the content at these places of its content URLs could not be fetched (RFC 8007, sections 5.2.6 and 5.2.7)
unfoldable pub econtent_data : SpecParts → List ℕ → Data
econtent_data spec places =
    object (member (codes "content.urls") (array (each_as (url_at spec.selection.content_urls) places))
    (member (codes "error") (string (codes "econtent")) no_members))

abbrev pub econtent_items : SpecParts → List ℕ → Items
econtent_items spec [] = no_items
econtent_items spec (place ∷ places) = item (econtent_data spec (place ∷ places)) no_items

-- what could not be done
abbrev pub error_items : Bool → SpecParts → List ℕ → Items
error_items true spec places = item (emeta_data spec) (econtent_items spec places)
error_items false spec places = econtent_items spec places

-- times are in whole seconds (RFC 8007, section 5.2.5)
abbrev pub seconds : ℕ → Data
seconds moment = number (unsigned (moment / 1000))

unfoldable pub last_members : Job → Members
last_members job = member (codes "mtime") (seconds job.mtime) (member (codes "status") (string (status_name job.status))
    (member (codes "trigger") (trigger_data job.spec) no_members))

unfoldable pub job_data : Job → Data
job_data job = object (member (codes "ctime") (seconds job.ctime)
    (with_list (codes "errors") (error_items job.emeta job.spec job.econtent) (last_members job)))

-- the resource, without spaces
abbrev pub job_text : Job → List ℕ
job_text job = compact_text (job_data job)
