-- One request, or why there is none.
use Rattle.std.proofs.Common.{◌≤◌, ◌≡◌, ℕ, ◌<◌, Bool, true, false, not, List, [], ◌∷◌, ◌++◌, length, refl, sym, ◌∙◌, ap, subst, Some, None, Option, append-nil, inl, inr}
use Rattle.std.specs.Option.{option_map}
use Rattle.std.specs.Io.KnownBytes.{IsAtEnd}
use Rattle.std.proofs.lemmas.Option.{none-some, same_Some}
use Rattle.cdni_base.specs.declared.asked.Asked.{Asked}
use Rattle.cdni_base.specs.declared.date.TheConstants.{DATE_END}
use Rattle.cdni_log.specs.declared.field.Field.{Field}
use Rattle.edge_base.specs.Clock.{Grows}
use Rattle.history.specs.Event.{History}
use Rattle.std.proofs.lemmas.Bool.{cases_lt}
use Rattle.http_wire.specs.Body.{framing_of, IsUntouched, ReadsBody, ReadsLength}
use Rattle.http_wire.specs.declared.body.BodyRead.{BodyRead}
use Rattle.http_wire.specs.declared.body.BodyRead.TheVariants as body
use Rattle.http_wire.specs.declared.body.Framing.{Framing}
use Rattle.http_wire.specs.Head.{HasNoHead, HeadParts, IsHopelessHead, Spells}
use Rattle.http_wire.specs.Moves.{Moves}
use Rattle.http_wire.specs.Reading.{IsBadHead}
use Rattle.http_wire.specs.declared.body.Framing.TheVariants as framing
use Rattle.http_wire.proofs.MoveLemmas.{moves_kept, moves_nothing, moves_then}
use Rattle.httparse.specs.Grammar.{MayBecomeRequest}
use Rattle.location_acl.specs.declared.footprint.Place.{Place}
use Rattle.node_core.specs.Home.{Who}
use Rattle.targets.specs.declared.target.Protocol.{Protocol}
use Rattle.upstream_gate.specs.Outcome.{Exchange}
use Rattle.upstream_gate.proofs.PlanLemmas.{grows_none, grows_on}
use Rattle.session_base.specs.Answer.{Answer, Says, IsConstant}
use Rattle.content_request.specs.Course.{Content, is_short}
use Rattle.session_base.specs.Doing.{Doing, nothing, Any, Does}
use Rattle.session_base.specs.Ending.{next_of}
use Rattle.session_base.specs.GateFaults.{CountsFaults}
use Rattle.session_base.specs.Moment.{capped}
use Rattle.session_base.specs.Request.{asked_of, manner_of, read_of}
use Rattle.session.specs.Session.{LeavesNext}
use Rattle.session.specs.Turn.{AnnouncesMore, Turn, TurnBehind, HasNoRequest, IsRefused, IsRefusedBody, BreaksOff, Answers, IsControl, Writes, bad_next}
use Rattle.session_base.specs.declared.constant.Constant.{Constant}
use Rattle.session_base.specs.declared.constant.Constant.TheVariants as constant
use Rattle.session_base.specs.declared.ending.Ending.{Ending}
use Rattle.session_base.specs.declared.ending.Ending.TheVariants as ending
use Rattle.session_base.specs.declared.ending.Next.{Next}
use Rattle.session_base.specs.declared.ending.Next.TheVariants as next
use Rattle.session_base.specs.declared.manner.Manner.{Manner}
use Rattle.session_base.specs.declared.send.Sent.{Sent}
use Rattle.session_base.specs.declared.settings.Settings.{Settings}
use Rattle.session.specs.declared.turn.TheConstants.{BODY_LIMIT}
use Rattle.session_base.proofs.DoingLemmas.{does_nothing}
use Rattle.session_base.proofs.GateFaultLemmas.{counts_none}
use Rattle.control_request.specs.Control.{Serves}
use Rattle.control_request.proofs.ControlLemmas.{serves_goes}

-- what is read of a head, and what is not
abbrev with_manner : Manner → Asked → Asked × Manner
with_manner manner asked = (asked, manner)

some_pair : (found : Option Asked) (manner : Manner) (pair : Asked × Manner) → Some pair ≡ option_map (with_manner manner) found → (found ≡ Some pair.0) × (pair.1 ≡ manner)
some_pair None manner pair e = absurd (none-some _ (sym e))
some_pair (Some a) manner pair e =
    let same : pair ≡ with_manner manner a = same_Some _ _ e in (ap (λ (x : Asked × Manner). Some x.0) (sym same), ap (λ (x : Asked × Manner). x.1) same)

pub read_some : (over : Protocol) (fields : List Field) (moment : ℕ) (last : Bool) (head : HeadParts) (pair : Asked × Manner) → Some pair ≡ read_of over fields moment last head
    → (asked_of over head ≡ Some pair.0) × (pair.1 ≡ manner_of fields head moment last)
read_some over fields moment last head pair e = some_pair (asked_of over head) (manner_of fields head moment last) pair e

no_pair : (found : Option Asked) (manner : Manner) → None ≡ option_map (with_manner manner) found → found ≡ None
no_pair None manner e = refl
no_pair (Some a) manner e = absurd (none-some _ e)

pub read_none : (over : Protocol) (fields : List Field) (moment : ℕ) (last : Bool) (head : HeadParts) → None ≡ read_of over fields moment last head → asked_of over head ≡ None
read_none over fields moment last head e = no_pair (asked_of over head) (manner_of fields head moment last) e

-- what a turn does, with what is told of it
abbrev pub Turned : Who → (History → Type 0) → (History → Type 0) → Option (List ℕ) → Option (List ℕ) → Option (List Exchange) → Option (List Exchange) → ℕ → ℕ → Option (List ℕ) → Option (List ℕ) → Option (List ℕ) → Option (List ℕ) → List ℕ → List ℕ → Settings → Place → Bool → Next → Type 0
Turned who a b g g' t t' f f' k k' left left' inbox inbox' settings place last after =
    (d : Doing) × Turn settings place last d after × Moves left left' inbox inbox' d.bytes × LeavesNext left' inbox' after × Does who Any a b g g' t t' k k' d × CountsFaults f f' d.calls

abbrev pub TurnedBehind : List ℕ → Who → (History → Type 0) → (History → Type 0) → Option (List ℕ) → Option (List ℕ) → Option (List Exchange) → Option (List Exchange) → ℕ → ℕ → Option (List ℕ) → Option (List ℕ) → Option (List ℕ) → Option (List ℕ) → List ℕ → List ℕ → Settings → Place → Bool → Next → Type 0
TurnedBehind front who a b g g' t t' f f' k k' left left' inbox inbox' settings place last after =
    (d : Doing) × TurnBehind front settings place last d after × Moves left left' inbox inbox' d.bytes × LeavesNext left' inbox' after × Does who Any a b g g' t t' k k' d × CountsFaults f f' d.calls

-- the head was read, and then the rest
pub headed : (front : List ℕ) (who : Who) (a b : History → Type 0) (g g' : Option (List ℕ)) (t t' : Option (List Exchange)) (f f' : ℕ) (k k' : Option (List ℕ)) (left middle left' : Option (List ℕ)) (inbox inbox' inbox'' : List ℕ) (settings : Settings) (place : Place) (last : Bool) (after : Next)
    → Moves left middle inbox inbox' front → TurnedBehind front who a b g g' t t' f f' k k' middle left' inbox' inbox'' settings place last after
    → Turned who a b g g' t t' f f' k k' left left' inbox inbox'' settings place last after
headed front who a b g g' t t' f f' k k' left middle left' inbox inbox' inbox'' settings place last after moves r = (
  record r.0 { bytes = front ++ r.0.bytes },
  r.1,
  moves_then left middle left' inbox inbox' inbox'' front r.0.bytes moves r.2,
  r.3,
  record { moments = r.4.moments; exchanges = r.4.exchanges; written = r.4.written; calls = r.4.calls },
  r.5,
)

-- no head came, and nothing was written
pub no_head : (who : Who) (a : History → Type 0) (g : Option (List ℕ)) (t : Option (List Exchange)) (f : ℕ) (k : Option (List ℕ)) (left left' : Option (List ℕ)) (inbox inbox' bytes : List ℕ) (settings : Settings) (place : Place) (last : Bool) (end : Ending)
    → HasNoRequest bytes [] end → Moves left left' inbox inbox' bytes → LeavesNext left' inbox' (next.Stops end)
    → Turned who a a g g t t f f k k left left' inbox inbox' settings place last (next.Stops end)
no_head who a g t f k left left' inbox inbox' bytes settings place last end cause moves leaves = (
  record nothing { bytes = bytes },
  inl (end, refl, record { cause = cause; moments = refl; exchanges = refl; calls = refl }),
  moves,
  leaves,
  record { moments = grows_none g; exchanges = grows_none t; written = (does_nothing who Any a g t k).written; calls = (does_nothing who Any a g t k).calls },
  counts_none f,
)

-- no head came, and an answer was written
said_no_head : (who : Who) (a : History → Type 0) (g : Option (List ℕ)) (t : Option (List Exchange)) (f : ℕ) (Is : Answer → Type 0) (k k' : Option (List ℕ)) (sent : Sent) (s : Says Is k k' sent) (left left' : Option (List ℕ)) (inbox inbox' bytes : List ℕ) (settings : Settings) (place : Place) (last : Bool) (end : Ending)
    → HasNoRequest bytes s.written end → Moves left left' inbox inbox' bytes → LeavesNext left' inbox' (next.Stops end)
    → Turned who a a g g t t f f k k' left left' inbox inbox' settings place last (next.Stops end)
said_no_head who a g t f Is k k' sent s left left' inbox inbox' bytes settings place last end cause moves leaves = (
  record nothing { bytes = bytes; written = s.written },
  inl (end, refl, record { cause = cause; moments = refl; exchanges = refl; calls = refl }),
  moves,
  leaves,
  record { moments = grows_none g; exchanges = grows_none t; written = s.put; calls = (does_nothing who Any a g t k).calls },
  counts_none f,
)

writes : (which : Constant) (k k' : Option (List ℕ)) (sent : Sent) (s : Says (IsConstant which) k k' sent) → Writes which s.written sent.fault
writes which k k' sent s = (s.answer, s.is, s.takes)

pub bad_head : (who : Who) (a : History → Type 0) (g : Option (List ℕ)) (t : Option (List Exchange)) (f : ℕ) (k k' : Option (List ℕ)) (sent : Sent) (left left' : Option (List ℕ)) (inbox inbox' bytes : List ℕ) (settings : Settings) (place : Place) (last : Bool) (taken : ℕ) (after : Next)
    → Says (IsConstant constant.BadRequest) k k' sent → after ≡ bad_next taken sent.fault → IsBadHead Spells HasNoHead MayBecomeRequest IsHopelessHead bytes taken → Moves left left' inbox inbox' bytes
    → Turned who a a g g t t f f k k' left left' inbox inbox' settings place last after
bad_head who a g t f k k' sent left left' inbox inbox' bytes settings place last taken after s goes bad moves =
    subst (Turned who a a g g t t f f k k' left left' inbox inbox' settings place last) (sym goes) (elim (sent.fault) as (λ x. sent.fault ≡ x → Turned who a a g g t t f f k k' left left' inbox inbox' settings place last (bad_next taken x)) [
      | true ↦ λ e. said_no_head who a g t f _ k k' sent s left left' inbox inbox' bytes settings place last ending.WriteFault (inl (taken, bad, subst (Writes constant.BadRequest s.written) e (writes constant.BadRequest k k' sent s))) moves tt
      | false ↦ λ e. said_no_head who a g t f _ k k' sent s left left' inbox inbox' bytes settings place last (ending.BadHead taken) (bad, subst (Writes constant.BadRequest s.written) e (writes constant.BadRequest k k' sent s)) moves tt
    ] refl)

pub short_of_head : (who : Who) (a : History → Type 0) (g : Option (List ℕ)) (t : Option (List Exchange)) (f : ℕ) (k k' : Option (List ℕ)) (sent : Sent) (left left' : Option (List ℕ)) (inbox inbox' : List ℕ) (settings : Settings) (place : Place) (last : Bool) (after : Next)
    → Says (IsConstant constant.Unavailable) k k' sent → after ≡ next_of false true sent.fault → Moves left left' inbox inbox' []
    → Turned who a a g g t t f f k k' left left' inbox inbox' settings place last after
short_of_head who a g t f k k' sent left left' inbox inbox' settings place last after s goes moves =
    subst (Turned who a a g g t t f f k k' left left' inbox inbox' settings place last) (sym goes) (elim (sent.fault) as (λ x. sent.fault ≡ x → Turned who a a g g t t f f k k' left left' inbox inbox' settings place last (next_of false true x)) [
      | true ↦ λ e. said_no_head who a g t f _ k k' sent s left left' inbox inbox' [] settings place last ending.WriteFault (inr (subst (Writes constant.Unavailable s.written) e (writes constant.Unavailable k k' sent s))) moves tt
      | false ↦ λ e. said_no_head who a g t f _ k k' sent s left left' inbox inbox' [] settings place last ending.Memory (subst (Writes constant.Unavailable s.written) e (writes constant.Unavailable k k' sent s)) moves tt
    ] refl)

-- ---- behind a head

-- nothing that stops but at the source's end says what is left
stops_free : (left : Option (List ℕ)) (inbox : List ℕ) (leaves short fault : Bool) → LeavesNext left inbox (next_of leaves short fault)
stops_free left inbox leaves short true = tt
stops_free left inbox leaves true false = tt
stops_free left inbox true false false = tt
stops_free left inbox false false false = tt

-- the request is refused by its head
pub refused : (front : List ℕ) (who : Who) (a : History → Type 0) (g g' : Option (List ℕ)) (t : Option (List Exchange)) (f : ℕ) (k k' : Option (List ℕ)) (sent : Sent) (left left' : Option (List ℕ)) (inbox inbox' : List ℕ) (settings : Settings) (place : Place) (last : Bool) (head : HeadParts) (moment : ℕ) (which : Constant) (after : Next)
    → Spells front head → Says (IsConstant which) k k' sent → after ≡ next_of (not last) false sent.fault → IsRefused (asked_of settings.protocol head) (framing_of head.headers) which
    → Grows g g' (moment ∷ []) → Moves left left' inbox inbox' [] → TurnedBehind front who a a g g' t t f f k k' left left' inbox inbox' settings place last after
refused front who a g g' t f k k' sent left left' inbox inbox' settings place last head moment which after spells s goes refuses grows moves =
    subst (TurnedBehind front who a a g g' t t f f k k' left left' inbox inbox' settings place last) (sym goes) (
      record nothing { moments = moment ∷ []; written = s.written },
      inr (inl (record {
        head = head;
        moment = moment;
        which = which;
        fault = sent.fault;
        only = record { spells = subst (λ (x : List ℕ). Spells x head) (sym (append-nil front)) spells; moments = refl; exchanges = refl; calls = refl };
        refused = refuses;
        writes = writes which k k' sent s;
        goes = refl;
      })),
      moves,
      stops_free left' inbox' (not last) false sent.fault,
      record { moments = grows; exchanges = grows_none t; written = s.put; calls = (does_nothing who Any a g t k).calls },
      counts_none f,
    )

-- the request was not read whole, and nothing was written
pub broken : (front part : List ℕ) (who : Who) (a : History → Type 0) (g g' : Option (List ℕ)) (t : Option (List Exchange)) (f : ℕ) (k : Option (List ℕ)) (left left' : Option (List ℕ)) (inbox inbox' : List ℕ) (settings : Settings) (place : Place) (last : Bool) (head : HeadParts) (moment : ℕ) (after : Next)
    → Spells front head → BreaksOff (asked_of settings.protocol head) (framing_of head.headers) part [] after → Grows g g' (moment ∷ []) → Moves left left' inbox inbox' part → LeavesNext left' inbox' after
    → TurnedBehind front who a a g g' t t f f k k left left' inbox inbox' settings place last after
broken front part who a g g' t f k left left' inbox inbox' settings place last head moment after spells breaks grows moves leaves = (
  record nothing { bytes = part; moments = moment ∷ [] },
  inr (inr (inl (record {
    head = head;
    front = front;
    part = part;
    moment = moment;
    only = record { spells = spells; moments = refl; exchanges = refl; calls = refl };
    bytes = refl;
    breaks = breaks;
  }))),
  moves,
  leaves,
  record { moments = grows; exchanges = grows_none t; written = (does_nothing who Any a g t k).written; calls = (does_nothing who Any a g t k).calls },
  counts_none f,
)

breaks_short : (asked : Option Asked) (told : Framing) (part written : List ℕ) (fault : Bool) → Writes constant.Unavailable written fault → BreaksOff asked told part written (next_of false true fault)
breaks_short asked told part written true w = w
breaks_short asked told part written false w = w

-- or for want of memory
pub broken_short : (front part : List ℕ) (who : Who) (a : History → Type 0) (g g' : Option (List ℕ)) (t : Option (List Exchange)) (f : ℕ) (k k' : Option (List ℕ)) (sent : Sent) (left left' : Option (List ℕ)) (inbox inbox' : List ℕ) (settings : Settings) (place : Place) (last : Bool) (head : HeadParts) (moment : ℕ) (after : Next)
    → Spells front head → Says (IsConstant constant.Unavailable) k k' sent → after ≡ next_of false true sent.fault → Grows g g' (moment ∷ []) → Moves left left' inbox inbox' part
    → TurnedBehind front who a a g g' t t f f k k' left left' inbox inbox' settings place last after
broken_short front part who a g g' t f k k' sent left left' inbox inbox' settings place last head moment after spells s goes grows moves =
    subst (TurnedBehind front who a a g g' t t f f k k' left left' inbox inbox' settings place last) (sym goes) (
      record nothing { bytes = part; moments = moment ∷ []; written = s.written },
      inr (inr (inl (record {
        head = head;
        front = front;
        part = part;
        moment = moment;
        only = record { spells = spells; moments = refl; exchanges = refl; calls = refl };
        bytes = refl;
        breaks = breaks_short (asked_of settings.protocol head) (framing_of head.headers) part s.written sent.fault (writes constant.Unavailable k k' sent s);
      }))),
      moves,
      stops_free left' inbox' false true sent.fault,
      record { moments = grows; exchanges = grows_none t; written = s.put; calls = (does_nothing who Any a g t k).calls },
      counts_none f,
    )

-- what follows a request that was answered says nothing of what is left
answered_free : (left : Option (List ℕ)) (inbox : List ℕ) (settings : Settings) (place : Place) (asked : Asked) (body : List ℕ) (manner : Manner) (d : Doing) (after : Next) → Answers settings place asked body manner d after → LeavesNext left inbox after
answered_free left inbox settings place asked body manner d after (inl control) = let goes = serves_goes settings asked body manner d after control.1 in
    subst (LeavesNext left inbox) (sym goes.2) (stops_free left inbox manner.leaves goes.0 goes.1)
answered_free left inbox settings place asked body manner d after (inr content) = subst (LeavesNext left inbox) (sym content.1.goes) (stops_free left inbox manner.leaves (is_short content.1.course) content.1.fault)

-- the request was read whole, and served
pub served : (front body : List ℕ) (who : Who) (a b : History → Type 0) (g g' g'' : Option (List ℕ)) (t t' : Option (List Exchange)) (f f' : ℕ) (k k' : Option (List ℕ)) (left left' : Option (List ℕ)) (inbox inbox' : List ℕ) (settings : Settings) (place : Place) (last : Bool) (head : HeadParts) (moment : ℕ) (asked : Asked) (manner : Manner) (after : Next) (d : Doing)
    → Spells front head → asked_of settings.protocol head ≡ Some asked → manner ≡ manner_of settings.fields head (capped moment) last → framing_of head.headers ≡ framing.Length (length body) → length body ≤ BODY_LIMIT
    → Grows g g' (moment ∷ []) → Moves left left' inbox inbox' body → Answers settings place asked body manner d after → Does who Any a b g' g'' t t' k k' d → CountsFaults f f' d.calls
    → TurnedBehind front who a b g g'' t t' f f' k k' left left' inbox inbox' settings place last after
served front body who a b g g' g'' t t' f f' k k' left left' inbox inbox' settings place last head moment asked manner after d spells asks manners framed within grows moves answers does counts = (
  record { bytes = body; moments = moment ∷ d.moments; exchanges = d.exchanges; written = d.written; calls = d.calls },
  inr (inr (inr (record {
    asked = asked;
    head = head;
    moment = moment;
    inner = d;
    whole = record { front = front; content = body; spells = spells; asks = asks; framed = framed; within = within; is = refl };
    answers = subst (λ (m : Manner). Answers settings place asked body m d after) manners answers;
  }))),
  moves,
  answered_free left' inbox' settings place asked body manner d after answers,
  record { moments = grows_on g g' g'' (moment ∷ []) d.moments grows does.moments; exchanges = does.exchanges; written = does.written; calls = does.calls },
  counts,
)

-- a request of the upstream CDN
pub for_control : (who : Who) (a b : History → Type 0) (g g' : Option (List ℕ)) (t t' : Option (List Exchange)) (f f' : ℕ) (k k' : Option (List ℕ)) (settings : Settings) (place : Place) (asked : Asked) (body : List ℕ) (manner : Manner) (after : Next) (d : Doing)
    → IsControl settings asked true → Serves settings asked body manner d after → Does who Any a b g g' t t' k k' d → CountsFaults f f' d.calls
    → (e : Doing) × Answers settings place asked body manner e after × Does who Any a b g g' t t' k k' e × CountsFaults f f' e.calls
for_control who a b g g' t t' f f' k k' settings place asked body manner after d control serves does counts = (d, inl (control, serves), does, counts)

pub for_content : (who : Who) (a b : History → Type 0) (g g' : Option (List ℕ)) (t t' : Option (List Exchange)) (f f' : ℕ) (k k' : Option (List ℕ)) (settings : Settings) (place : Place) (asked : Asked) (body : List ℕ) (manner : Manner) (after : Next) (d : Doing)
    → IsControl settings asked false → Content settings.root asked place manner d after → Does who Any a b g g' t t' k k' d → CountsFaults f f' d.calls
    → (e : Doing) × Answers settings place asked body manner e after × Does who Any a b g g' t t' k k' e × CountsFaults f f' e.calls
for_content who a b g g' t t' f f' k k' settings place asked body manner after d other content does counts = (d, inr (other, content), does, counts)

-- ---- what was read

-- all that came is taken out
pub cleared : (left left' : Option (List ℕ)) (inbox after inbox' : List ℕ) → Moves left left' inbox after [] → inbox' ≡ [] → Moves left left' inbox inbox' after
cleared left left' inbox after inbox' moves empty = record { taken = moves.taken; consumed = moves.consumed; parts = moves.parts ∙ sym (append-nil after) ∙ ap (λ x. after ++ x) (sym empty) }

untouched : (left left' : Option (List ℕ)) (inbox inbox' : List ℕ) → IsUntouched left left' inbox inbox' → Moves left left' inbox inbox' []
untouched left left' inbox inbox' is = moves_kept left left left' inbox inbox inbox' [] (moves_nothing left inbox) is.0 is.1

-- by the length of the body, where it is within the limit
within_limit : (count : ℕ) (left left' : Option (List ℕ)) (inbox inbox' : List ℕ) (result : BodyRead) → ((len : ℕ) → result ≡ body.TooLarge len → ⊥) → ReadsBody BODY_LIMIT left left' inbox inbox' (framing.Length count) result
    → (count ≤ BODY_LIMIT) × ReadsLength count left left' inbox inbox' result
within_limit count left left' inbox inbox' result other reads = elim (cases_lt BODY_LIMIT count) [
  | inl above ↦ absurd (other count (reads.0 above).0)
  | inr within ↦ (within, reads.1 within)
]

-- the body was read whole
pub body_whole : (told : Framing) (left left' : Option (List ℕ)) (inbox inbox' text : List ℕ) → ReadsBody BODY_LIMIT left left' inbox inbox' told (body.Body text) → (told ≡ framing.Length (length text)) × Moves left left' inbox inbox' text × (length text ≤ BODY_LIMIT)
body_whole framing.Coded left left' inbox inbox' text reads = cc
body_whole framing.BadLength left left' inbox inbox' text reads = cc
body_whole (framing.Length count) left left' inbox inbox' text reads = let r = within_limit count left left' inbox inbox' (body.Body text) (λ len e. cc) reads in (ap (λ (n : ℕ). framing.Length n) (sym r.1.1), r.1.0, subst (λ (n : ℕ). n ≤ BODY_LIMIT) (sym r.1.1) r.0)

-- the request is refused by what is told of its body
pub body_coded : (told : Framing) (left left' : Option (List ℕ)) (inbox inbox' : List ℕ) → ReadsBody BODY_LIMIT left left' inbox inbox' told body.Coded → IsRefusedBody told constant.LengthRequired × Moves left left' inbox inbox' []
body_coded framing.Coded left left' inbox inbox' reads = (refl, untouched left left' inbox inbox' reads.1)
body_coded framing.BadLength left left' inbox inbox' reads = cc
body_coded (framing.Length count) left left' inbox inbox' reads = absurd ((within_limit count left left' inbox inbox' body.Coded (λ len e. cc) reads).1)

pub body_bad : (told : Framing) (left left' : Option (List ℕ)) (inbox inbox' : List ℕ) (taken : ℕ) → ReadsBody BODY_LIMIT left left' inbox inbox' told (body.BadLength taken) → IsRefusedBody told constant.BadRequest × Moves left left' inbox inbox' []
body_bad framing.Coded left left' inbox inbox' taken reads = cc
body_bad framing.BadLength left left' inbox inbox' taken reads = (refl, untouched left left' inbox inbox' reads.1)
body_bad (framing.Length count) left left' inbox inbox' taken reads = absurd ((within_limit count left left' inbox inbox' (body.BadLength taken) (λ len e. cc) reads).1)

pub body_large : (told : Framing) (left left' : Option (List ℕ)) (inbox inbox' : List ℕ) (len : ℕ) → ReadsBody BODY_LIMIT left left' inbox inbox' told (body.TooLarge len) → IsRefusedBody told constant.ContentTooLarge × Moves left left' inbox inbox' []
body_large framing.Coded left left' inbox inbox' len reads = cc
body_large framing.BadLength left left' inbox inbox' len reads = cc
body_large (framing.Length count) left left' inbox inbox' len reads = elim (cases_lt BODY_LIMIT count) [
  | inl above ↦ ((above, refl), untouched left left' inbox inbox' (reads.0 above).1)
  | inr within ↦ absurd (reads.1 within)
]

cut_not_large : (count taken : ℕ) → body.CutShort taken ≡ body.TooLarge count → ⊥
cut_not_large count taken e = cc

-- the body was not read whole
pub body_cut : (asked : Option Asked) (some : Asked) (told : Framing) (left left' : Option (List ℕ)) (inbox inbox' : List ℕ) (taken : ℕ) → asked ≡ Some some → ReadsBody BODY_LIMIT left left' inbox inbox' told (body.CutShort taken)
    → (part : List ℕ) × Moves left left' inbox inbox' part × (length part ≡ taken) × AnnouncesMore asked told taken × IsAtEnd left' × (inbox' ≡ [])
body_cut asked some framing.Coded left left' inbox inbox' taken is reads = cc
body_cut asked some framing.BadLength left left' inbox inbox' taken is reads = cc
body_cut asked some (framing.Length count) left left' inbox inbox' taken is reads = elim (cases_lt BODY_LIMIT count) [
  | inl above ↦ absurd (cut_not_large count taken (reads.0 above).0)
  | inr within ↦ let r = reads.1 within in
      (r.0, r.1, r.2, subst (λ (x : Option Asked). AnnouncesMore x (framing.Length count) taken) (sym is) (within, r.3), r.4, r.5)
]

pub body_fault : (told : Framing) (left left' : Option (List ℕ)) (inbox inbox' : List ℕ) → ReadsBody BODY_LIMIT left left' inbox inbox' told body.ReadFault → (part : List ℕ) × Moves left left' inbox inbox' part
body_fault framing.Coded left left' inbox inbox' reads = cc
body_fault framing.BadLength left left' inbox inbox' reads = cc
body_fault (framing.Length count) left left' inbox inbox' reads = (within_limit count left left' inbox inbox' body.ReadFault (λ len e. cc) reads).1

pub body_short : (told : Framing) (left left' : Option (List ℕ)) (inbox inbox' : List ℕ) → ReadsBody BODY_LIMIT left left' inbox inbox' told body.Memory → (part : List ℕ) × Moves left left' inbox inbox' part
body_short framing.Coded left left' inbox inbox' reads = cc
body_short framing.BadLength left left' inbox inbox' reads = cc
body_short (framing.Length count) left left' inbox inbox' reads = (within_limit count left left' inbox inbox' body.Memory (λ len e. cc) reads).1

-- a request without a target
pub refused_head : (asked : Option Asked) (told : Framing) → asked ≡ None → IsRefused asked told constant.BadRequest
refused_head asked told is = subst (λ (x : Option Asked). IsRefused x told constant.BadRequest) (sym is) refl

pub refused_body : (asked : Option Asked) (some : Asked) (told : Framing) (which : Constant) → asked ≡ Some some → IsRefusedBody told which → IsRefused asked told which
refused_body asked some told which is refuses = subst (λ (x : Option Asked). IsRefused x told which) (sym is) refuses

pub manner_at : (fields : List Field) (head : HeadParts) (moment read : ℕ) (last : Bool) (manner : Manner) → manner ≡ manner_of fields head moment last → moment ≡ capped read → manner ≡ manner_of fields head (capped read) last
manner_at fields head moment read last manner is at = is ∙ ap (λ (m : ℕ). manner_of fields head m last) at

-- a request is answered with the date at which it was read
moment_of : (fields : List Field) (head : HeadParts) (moment : ℕ) (last : Bool) → (manner_of fields head moment last).moment ≡ moment
unfolding manner_of
moment_of fields head moment last = refl

pub dated : (fields : List Field) (head : HeadParts) (moment : ℕ) (last : Bool) (manner : Manner) → manner ≡ manner_of fields head moment last → moment < DATE_END → manner.moment < DATE_END
dated fields head moment last manner is within = subst (λ (n : ℕ). n < DATE_END) (sym (ap (λ (m : Manner). m.moment) is ∙ moment_of fields head moment last)) within
