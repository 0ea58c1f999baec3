-- One request of a connection, or why there is none.
use Rattle.std.specs.Prelude.{◌≡◌, ◌⊎◌, ℕ, ◌<◌, ◌≤◌, Bool, true, false, not, List, [], ◌∷◌, ◌++◌, length, None, Some, bytes_eq}
use Rattle.std.specs.declared.option.Option.{Option}
use Rattle.cdni_base.specs.declared.asked.Asked.{Asked}
use Rattle.http_wire.specs.Body.{framing_of}
use Rattle.http_wire.specs.Head.{HasNoHead, HeadParts, IsHopelessHead, Spells}
use Rattle.http_wire.specs.Reading.{IsBadHead, IsCutShort}
use Rattle.http_wire.specs.declared.body.Framing.{Framing}
use Rattle.http_wire.specs.declared.body.Framing.TheVariants as framing
use Rattle.httparse.specs.Grammar.{MayBecomeRequest}
use Rattle.location_acl.specs.declared.footprint.Place.{Place}
use Rattle.session_base.specs.Answer.{Answer, IsConstant, Takes}
use Rattle.content_request.specs.Course.{Content}
use Rattle.control_request.specs.Control.{Serves}
use Rattle.session_base.specs.Doing.{Doing}
use Rattle.session_base.specs.Ending.{next_of}
use Rattle.session_base.specs.Moment.{capped}
use Rattle.session_base.specs.Request.{asked_of, manner_of}
use Rattle.session_base.specs.declared.constant.Constant.{Constant}
use Rattle.session_base.specs.declared.constant.Constant.TheVariants as constant
use Rattle.session_base.specs.declared.ending.Ending.{Ending}
use Rattle.session_base.specs.declared.ending.Ending.TheVariants as ending
use Rattle.session_base.specs.declared.ending.Next.{Next}
use Rattle.session_base.specs.declared.ending.Next.TheVariants as next
use Rattle.session_base.specs.declared.manner.Manner.{Manner}
use Rattle.session_base.specs.declared.settings.Settings.{Settings}
use Rattle.session.specs.declared.turn.TheConstants.{BODY_LIMIT}

-- the sink took a constant answer, or what it took of it
abbrev pub Writes : Constant → List ℕ → Bool → Type 0
Writes which written fault = (answer : Answer) × IsConstant which answer × Takes answer written fault

-- no head came, and why: nothing was called or asked; bytes that begin no head are answered 400, and want of memory 503
abbrev pub HasNoRequest : List ℕ → List ℕ → Ending → Type 0
HasNoRequest bytes written ending.Ended = (bytes ≡ []) × (written ≡ [])
HasNoRequest bytes written (ending.CutShort taken) = IsCutShort Spells HasNoHead MayBecomeRequest IsHopelessHead bytes taken × (written ≡ [])
HasNoRequest bytes written (ending.BadHead taken) = IsBadHead Spells HasNoHead MayBecomeRequest IsHopelessHead bytes taken
    × Writes constant.BadRequest written false
HasNoRequest bytes written ending.ReadFault = written ≡ []
HasNoRequest bytes written ending.Memory = Writes constant.Unavailable written false
HasNoRequest bytes written ending.WriteFault =
    ((taken : ℕ) × IsBadHead Spells HasNoHead MayBecomeRequest IsHopelessHead bytes taken × Writes constant.BadRequest written true)
    ⊎ Writes constant.Unavailable written true
HasNoRequest bytes written ending.Closed = ⊥
HasNoRequest bytes written ending.Turns = ⊥

pub record NoHead (d : Doing) (end : Ending) : Type 0 where
  pub cause : HasNoRequest d.bytes d.written end
  pub moments : d.moments ≡ []
  pub exchanges : d.exchanges ≡ []
  pub calls : d.calls ≡ []

-- a head of which the request is refused: it asks for nothing, or its body is told in no way that is read, or is too long
abbrev pub IsRefusedBody : Framing → Constant → Type 0
IsRefusedBody framing.Coded which = which ≡ constant.LengthRequired
IsRefusedBody framing.BadLength which = which ≡ constant.BadRequest
IsRefusedBody (framing.Length count) which = (BODY_LIMIT < count) × (which ≡ constant.ContentTooLarge)

abbrev pub IsRefused : Option Asked → Framing → Constant → Type 0
IsRefused None told which = which ≡ constant.BadRequest
IsRefused (Some asked) told which = IsRefusedBody told which

-- a head was read, and the clock; nothing was called or asked
pub record OnlyHead (head : HeadParts) (front : List ℕ) (moment : ℕ) (d : Doing) : Type 0 where
  pub spells : Spells front head
  pub moments : d.moments ≡ moment ∷ []
  pub exchanges : d.exchanges ≡ []
  pub calls : d.calls ≡ []

-- a request that is refused by its head; then the connection closes
pub record Refusal (settings : Settings) (last : Bool) (d : Doing) (after : Next) : Type 0 where
  pub head : HeadParts
  pub moment : ℕ
  pub which : Constant
  pub fault : Bool
  pub only : OnlyHead head d.bytes moment d
  pub refused : IsRefused (asked_of settings.protocol head) (framing_of head.headers) which
  pub writes : Writes which d.written fault
  pub goes : after ≡ next_of (not last) false fault

-- the head asks for something, and of its body, which is within the limit, more is announced than so many bytes
abbrev pub AnnouncesMore : Option Asked → Framing → ℕ → Type 0
AnnouncesMore None told taken = ⊥
AnnouncesMore (Some asked) framing.Coded taken = ⊥
AnnouncesMore (Some asked) framing.BadLength taken = ⊥
AnnouncesMore (Some asked) (framing.Length count) taken = (count ≤ BODY_LIMIT) × (taken < count)

-- a request that was not read whole: its body was cut short after so many bytes, or the source failed, or no memory was
-- found, which is answered 503
abbrev pub BreaksOff : Option Asked → Framing → List ℕ → List ℕ → Next → Type 0
BreaksOff asked told part written (next.Stops (ending.CutShort taken)) = (length part ≡ taken) × (written ≡ [])
    × AnnouncesMore asked told taken
BreaksOff asked told part written (next.Stops ending.ReadFault) = written ≡ []
BreaksOff asked told part written (next.Stops ending.Memory) = Writes constant.Unavailable written false
BreaksOff asked told part written (next.Stops ending.WriteFault) = Writes constant.Unavailable written true
BreaksOff asked told part written other = ⊥

pub record Broken (settings : Settings) (d : Doing) (after : Next) : Type 0 where
  pub head : HeadParts
  pub front : List ℕ
  pub part : List ℕ
  pub moment : ℕ
  pub only : OnlyHead head front moment d
  pub bytes : d.bytes ≡ front ++ part
  pub breaks : BreaksOff (asked_of settings.protocol head) (framing_of head.headers) part d.written after

-- a request that was read whole, with a body of as many bytes as are announced, which are within the limit, and what
-- passed since
pub record Whole (settings : Settings) (asked : Asked) (head : HeadParts) (moment : ℕ) (inner d : Doing) : Type 0 where
  pub front : List ℕ
  pub content : List ℕ
  pub spells : Spells front head
  pub asks : asked_of settings.protocol head ≡ Some asked
  pub framed : framing_of head.headers ≡ framing.Length (length content)
  pub within : length content ≤ BODY_LIMIT
  pub is : d ≡ record {
    bytes = front ++ content;
    moments = moment ∷ inner.moments;
    exchanges = inner.exchanges;
    written = inner.written;
    calls = inner.calls;
  }

-- the host of the target is the control host, or another one
abbrev pub IsControl : Settings → Asked → Bool → Type 0
IsControl settings asked answer = bytes_eq asked.target.host settings.control ≡ answer

-- a request that was read whole, with this body, is of the upstream CDN, at the control host, or for content
abbrev pub Answers : Settings → Place → Asked → List ℕ → Manner → Doing → Next → Type 0
Answers settings place asked body manner d after = (IsControl settings asked true × Serves settings asked body manner d after)
    ⊎ (IsControl settings asked false × Content settings.root asked place manner d after)

pub record Served (settings : Settings) (place : Place) (last : Bool) (d : Doing) (after : Next) : Type 0 where
  pub asked : Asked
  pub head : HeadParts
  pub moment : ℕ
  pub inner : Doing
  pub whole : Whole settings asked head moment inner d
  pub answers : Answers settings place asked whole.content (manner_of settings.fields head (capped moment) last) inner after

-- a request, which may be the last of its connection, or why there is none; and what follows
abbrev pub Turn : Settings → Place → Bool → Doing → Next → Type 0
Turn settings place last d after = ((end : Ending) × (after ≡ next.Stops end) × NoHead d end)
    ⊎ (Refusal settings last d after ⊎ (Broken settings d after ⊎ Served settings place last d after))

-- the same, but for the bytes of the head, which were taken before
abbrev pub TurnBehind : List ℕ → Settings → Place → Bool → Doing → Next → Type 0
TurnBehind front settings place last d after = Turn settings place last (record d { bytes = front ++ d.bytes }) after

-- what follows bytes that begin no head
abbrev pub bad_next : ℕ → Bool → Next
bad_next taken true = next.Stops ending.WriteFault
bad_next taken false = next.Stops (ending.BadHead taken)
