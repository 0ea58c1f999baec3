-- What the words of `serve` say.
use Rattle.std.specs.Prelude.{◌≡◌, ◌^◌, ◌==◌, false, ℕ, List, [], codes, bytes_eq, length, None, Some, Ok, Err, ◌&&◌, nat_le, if◌then◌else◌, String}
use Rattle.std.specs.List.{list_all, slice_split}
use Rattle.std.specs.Option.{option_map}
use Rattle.std.specs.Result.{result_ok}
use Rattle.std.specs.declared.alloc.Global.{Global}
use Rattle.std.specs.declared.option.Option.{Option}
use Rattle.std.specs.declared.result.Result.{Result}
use Rattle.cdni_base.specs.Limits.{Bounds}
use Rattle.cdni_base.specs.Provider.{provider_of}
use Rattle.cdni_base.specs.declared.provider.ProviderId.{ProviderId}
use Rattle.cdni_log.specs.FieldList.{default_fields, fields_of}
use Rattle.cdni_log.specs.declared.field.Field.{Field}
use Rattle.cdni_log.specs.declared.field.FieldNameFault.{FieldNameFault}
use Rattle.cdni_log.specs.declared.field.FieldNameFault.TheVariants as field_name_fault
use Rattle.footprints.specs.Settings.{AdvertParts, is_footprint_text}
use Rattle.listing.specs.Number.{number_of}
use Rattle.listing.specs.Word.{◌>>=◌}
use Rattle.targets.specs.Endpoint.{endpoint_of}
use Rattle.targets.specs.Target.{begins_with, target_of}
use Rattle.targets.specs.declared.target.Protocol.{Protocol}
use Rattle.targets.specs.declared.target.Protocol.TheVariants as protocol
use Rattle.targets.specs.declared.target.Target.{Target}
use Rattle.targets.specs.declared.target.TargetFault.{TargetFault}
use Rattle.targets.specs.declared.target.TargetFault.TheVariants as target_fault
use Rattle.serve_words.specs.Form.{command_pairs, texts_of}
use Rattle.serve_words.specs.Values.{ValueTexts, values_of}
use Rattle.serve_words.specs.declared.options.Options.{Options}
use Rattle.serve_words.specs.declared.options.OptionsRead.{OptionsRead}
use Rattle.serve_words.specs.declared.options.OptionsRead.TheVariants as read
use Rattle.serve_words.specs.declared.reading.Identity.{Identity}
use Rattle.serve_words.specs.declared.reading.Load.{Load}
use Rattle.serve_words.specs.declared.options.Unread.{Unread}
use Rattle.serve_words.specs.declared.options.Unread.TheVariants as unread

-- ---- values

-- what the text says, or this where it is not there
abbrev pub said_or : {A : Type 0} → (List ℕ → Option A) → A → Option (List ℕ) → Option A
said_or read usual None = Some usual
said_or read usual (Some text) = read text

-- what the text says, where it is there
abbrev pub said_if : {A : Type 0} → (List ℕ → Option A) → Option (List ℕ) → Option (Option A)
said_if read None = Some None
said_if read (Some text) = option_map Some (read text)

-- a decimal number of this range, without leading zeros
unfoldable pub number_between : ℕ → ℕ → List ℕ → Option ℕ
number_between least most text =
    number_of text >>= λ n. if nat_le least n && nat_le n most then Some n else None

-- an absolute `http` URL
unfoldable pub root_of : List ℕ → Option Target
root_of url = if begins_with (codes "http://") url then result_ok (target_of url None false) else None

abbrev pub root_in : Option (List ℕ) → Option Target
root_in url = url >>= root_of

-- a host that ends where the text does: neither a port nor a colon follows
unfoldable pub host_of : List ℕ → Option (List ℕ)
host_of text = result_ok (endpoint_of text) >>= λ endpoint.
    if length endpoint.host == length text then Some endpoint.host else None

-- the protocol of the listener
unfoldable pub protocol_of : List ℕ → Option Protocol
protocol_of text = if bytes_eq text (codes "http/1.1") then Some protocol.Http
    else (if bytes_eq text (codes "https/1.1") then Some protocol.Https else None)

-- the id of a CDN provider
unfoldable pub id_of : List ℕ → Option ProviderId
id_of text = result_ok (provider_of text)

-- texts, joined by commas
abbrev pub parts_in : Option (List ℕ) → List (List ℕ)
parts_in None = []
parts_in (Some text) = slice_split (λ x. x == 44) text

-- the fields of log files: their names are joined by commas
abbrev pub fields_in : Option (List ℕ) → Option (List Field)
fields_in text = said_or (fields_of 44) default_fields text

-- these footprints, where each is one, under this protocol and with these fields of log files
unfoldable pub advert_at : Protocol → List (List ℕ) → List Field → Option AdvertParts
advert_at listener footprints fields = if list_all is_footprint_text footprints
    then Some (record { protocol = listener; footprints = footprints; fields = fields }) else None

-- ---- limits

-- what a node keeps at most; the number of its answers has no option
unfoldable pub limits_of : ValueTexts → Option Bounds
limits_of v = said_or (number_between 0 1073741824) 268435456 v.cache
    >>= λ cache. said_or (number_between 1 100000) 20000 v.rows
    >>= λ rows. said_or (number_between 1 10000) 1000 v.triggers
    >>= λ triggers. said_or (number_between 1 64) 16 v.files
    >>= λ files. said_or (number_between 0 86400000) 60000 v.period
    >>= λ period. Some (record {
      cache = cache;
      rows = rows;
      triggers = triggers;
      files = files;
      period = period;
      opened = 2 ^ 62;
    })

-- the protocol, the footprints and the fields of log files
unfoldable pub advert_of : ValueTexts → Option AdvertParts
advert_of v = said_or protocol_of protocol.Http v.protocol
    >>= λ listener. fields_in v.log_fields
    >>= λ fields. advert_at listener (parts_in v.footprints) fields

-- ---- all options

-- who the node is: the root document, the host of the upstream CDN's requests, what it advertises, the id, the host that
-- log files claim, and their fields
unfoldable pub identity_of : ValueTexts → Option Identity
identity_of v = root_in v.metadata
    >>= λ root. said_or host_of (codes "control.example") v.control
    >>= λ control. advert_of v
    >>= λ advert. said_or id_of (record { 0 = codes "AS64496:0" }) v.cdn_id
    >>= λ own. said_or host_of (codes "dcdn.example") v.claimed_origin
    >>= λ origin. fields_in v.log_fields
    >>= λ fields. Some (record {
      root = root;
      control = control;
      advert = advert;
      own = own;
      origin = origin;
      fields = fields;
    })

-- how much it serves: the workers, the connections of each, and the limits
unfoldable pub load_of : ValueTexts → Option Load
load_of v = said_or (number_between 1 64) 4 v.workers
    >>= λ workers. said_if (number_between 1 1000000) v.connections
    >>= λ connections. limits_of v
    >>= λ limits. Some (record { workers = workers; connections = connections; limits = limits })

-- what the values say
unfoldable pub options_in : ValueTexts → Option Options
options_in v = load_of v
    >>= λ load. identity_of v
    >>= λ identity. v.listen
    >>= λ address. Some (record {
      address = address;
      root = identity.root;
      control = identity.control;
      advert = identity.advert;
      workers = load.workers;
      connections = load.connections;
      places = v.places;
      own = identity.own;
      origin = identity.origin;
      fields = identity.fields;
      limits = load.limits;
    })

-- what the words say, where they are a command
abbrev pub options_of : List (String Global) → Option Options
options_of words = command_pairs (texts_of words) >>= λ pairs. options_in (values_of pairs)

-- ---- reading

-- it is read as it says; it is refused only where it says nothing
abbrev pub Gives : {A : Type 0} → Result A Unread → Option A → Type 0
Gives (Ok found) said = said ≡ Some found
Gives (Err unread.NotOne) said = said ≡ None
Gives (Err unread.Memory) said = Unit {0}

abbrev pub ReadsOptions : List (String Global) → OptionsRead → Type 0
ReadsOptions words (read.Options options) = options_of words ≡ Some options
ReadsOptions words read.NotOne = options_of words ≡ None
ReadsOptions words read.Memory = Unit {0}

abbrev pub unread_field : FieldNameFault → Unread
unread_field field_name_fault.Memory = unread.Memory
unread_field field_name_fault.Unknown = unread.NotOne

abbrev pub unread_target : TargetFault → Unread
unread_target target_fault.Memory = unread.Memory
unread_target other = unread.NotOne
