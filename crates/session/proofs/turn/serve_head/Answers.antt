use Rattle.std.proofs.Common.{ℕ, List, [], refl, subst, sym, ◌∙◌}
use Rattle.session.specs.Turn.{Answers}
use Rattle.http_wire.specs.Body.{framing_of}
use Rattle.session_base.specs.declared.constant.Constant.TheVariants as constant
use Rattle.http_wire.proofs.MoveLemmas.{moves_nothing}
use Rattle.session.proofs.TurnLemmas.{body_bad, body_coded, body_cut, body_fault, body_large, body_short, body_whole, broken, broken_short, dated, manner_at, read_none, read_some, refused, refused_body, refused_head, served}
use Rattle.session.proofs.turn.serve_head.Goals as goal

pub returns-in-Body-clause-does : goal.returns-in-Body-clause-does
returns-in-Body-clause-does g c = λ front spells.
    let clock = c.read_clock-moment.ensures.read in
    let read = read_some _ _ _ _ _ _ (sym c.in-Ok-Some.field-0-is ∙ c.in-Ok-Some.ensures) in
    let whole = body_whole (framing_of c.args.head.now.headers) (g.S.Source.left c.args.source.now) (g.S.Source.left c.body_of.new.source) c.args.inbox.now c.body_of.new.inbox c.in-Body.body c.in-Body.ensures.bytes in
    let rest = c.serve_whole.ensures.does in
    let answers = subst (λ (x : List ℕ). Answers c.args.settings.now c.args.place c.in-Ok-Some.asked x c.in-Ok-Some.manner rest.0 c.serve_whole.result) c.bytes.ensures rest.1 in
    served front c.in-Body.body _ _ _ _ _ _ _ _ _ _ _ _ _ _ _ _ c.args.settings.now c.args.place c.args.last c.args.head.now clock.0 c.in-Ok-Some.asked c.in-Ok-Some.manner c.serve_whole.result rest.0 spells read.0
    (manner_at _ c.args.head.now _ clock.0 c.args.last c.in-Ok-Some.manner read.1 clock.2) whole.0 whole.2 clock.1 whole.1 answers rest.2 rest.3

pub returns-in-Coded-clause-does : goal.returns-in-Coded-clause-does
returns-in-Coded-clause-does g c = λ front spells.
    let clock = c.read_clock-moment.ensures.read in
    let read = read_some _ _ _ _ _ _ (sym c.in-Ok-Some.field-0-is ∙ c.in-Ok-Some.ensures) in
    let told = body_coded (framing_of c.args.head.now.headers) (g.S.Source.left c.args.source.now) (g.S.Source.left c.body_of.new.source) c.args.inbox.now c.body_of.new.inbox c.in-Coded.ensures.bytes in
    let says = c.refuse_request.ensures.says in
    refused front _ _ _ _ _ _ _ _ says.0 _ _ _ _ c.args.settings.now c.args.place c.args.last c.args.head.now clock.0 constant.LengthRequired c.refuse_request.result spells says.1 says.2
    (refused_body _ c.in-Ok-Some.asked _ _ read.0 told.0) clock.1 told.1

pub returns-in-BadLength-clause-does : goal.returns-in-BadLength-clause-does
returns-in-BadLength-clause-does g c = λ front spells.
    let clock = c.read_clock-moment.ensures.read in
    let read = read_some _ _ _ _ _ _ (sym c.in-Ok-Some.field-0-is ∙ c.in-Ok-Some.ensures) in
    let told = body_bad (framing_of c.args.head.now.headers) (g.S.Source.left c.args.source.now) (g.S.Source.left c.body_of.new.source) c.args.inbox.now c.body_of.new.inbox _ c.in-BadLength.ensures.bytes in
    let says = c.refuse_request-in-BadLength.ensures.says in
    refused front _ _ _ _ _ _ _ _ says.0 _ _ _ _ c.args.settings.now c.args.place c.args.last c.args.head.now clock.0 constant.BadRequest c.refuse_request-in-BadLength.result spells says.1 says.2
    (refused_body _ c.in-Ok-Some.asked _ _ read.0 told.0) clock.1 told.1

pub returns-in-TooLarge-clause-does : goal.returns-in-TooLarge-clause-does
returns-in-TooLarge-clause-does g c = λ front spells.
    let clock = c.read_clock-moment.ensures.read in
    let read = read_some _ _ _ _ _ _ (sym c.in-Ok-Some.field-0-is ∙ c.in-Ok-Some.ensures) in
    let told = body_large (framing_of c.args.head.now.headers) (g.S.Source.left c.args.source.now) (g.S.Source.left c.body_of.new.source) c.args.inbox.now c.body_of.new.inbox _ c.in-TooLarge.ensures.bytes in
    let says = c.refuse_request-in-TooLarge.ensures.says in
    refused front _ _ _ _ _ _ _ _ says.0 _ _ _ _ c.args.settings.now c.args.place c.args.last c.args.head.now clock.0 constant.ContentTooLarge c.refuse_request-in-TooLarge.result spells says.1 says.2
    (refused_body _ c.in-Ok-Some.asked _ _ read.0 told.0) clock.1 told.1

pub returns-in-CutShort-clause-does : goal.returns-in-CutShort-clause-does
returns-in-CutShort-clause-does g c = λ front spells.
    let clock = c.read_clock-moment.ensures.read in
    let read = read_some _ _ _ _ _ _ (sym c.in-Ok-Some.field-0-is ∙ c.in-Ok-Some.ensures) in
    let cut = body_cut _ c.in-Ok-Some.asked (framing_of c.args.head.now.headers) (g.S.Source.left c.args.source.now) (g.S.Source.left c.body_of.new.source) c.args.inbox.now c.body_of.new.inbox c.in-CutShort.taken read.0 c.in-CutShort.ensures.bytes in
    broken front cut.0 _ _ _ _ _ _ _ _ _ _ _ c.args.settings.now c.args.place c.args.last c.args.head.now clock.0 _ spells (cut.2, refl, cut.3) clock.1 cut.1 (cut.4, cut.5)

pub returns-in-ReadFault-clause-does : goal.returns-in-ReadFault-clause-does
returns-in-ReadFault-clause-does g c = λ front spells.
    let clock = c.read_clock-moment.ensures.read in
    let part = body_fault (framing_of c.args.head.now.headers) (g.S.Source.left c.args.source.now) (g.S.Source.left c.body_of.new.source) c.args.inbox.now c.body_of.new.inbox c.in-ReadFault.ensures.bytes in
    broken front part.0 _ _ _ _ _ _ _ _ _ _ _ c.args.settings.now c.args.place c.args.last c.args.head.now clock.0 _ spells refl clock.1 part.1 tt

pub returns-in-Memory-clause-does : goal.returns-in-Memory-clause-does
returns-in-Memory-clause-does g c = λ front spells.
    let clock = c.read_clock-moment.ensures.read in
    let part = body_short (framing_of c.args.head.now.headers) (g.S.Source.left c.args.source.now) (g.S.Source.left c.body_of.new.source) c.args.inbox.now c.body_of.new.inbox c.in-Memory.ensures.bytes in
    let says = c.fall_short.ensures.says in
    broken_short front part.0 _ _ _ _ _ _ _ _ says.0 _ _ _ _ c.args.settings.now c.args.place c.args.last c.args.head.now clock.0 c.fall_short.result spells says.1 says.2 clock.1 part.1

pub returns-in-Ok-None-clause-does : goal.returns-in-Ok-None-clause-does
returns-in-Ok-None-clause-does g c = λ front spells.
    let clock = c.read_clock-moment.ensures.read in
    let says = c.refuse_request-in-Ok-None.ensures.says in
    refused front _ _ _ _ _ _ _ _ says.0 _ _ _ _ c.args.settings.now c.args.place c.args.last c.args.head.now clock.0 constant.BadRequest c.refuse_request-in-Ok-None.result spells says.1 says.2
    (refused_head _ _ (read_none _ _ _ _ _ (sym c.in-Ok-None.field-0-is ∙ c.in-Ok-None.ensures))) clock.1 (moves_nothing (g.S.Source.left c.args.source.now) c.args.inbox.now)

pub returns-in-Err-clause-does : goal.returns-in-Err-clause-does
returns-in-Err-clause-does g c = λ front spells.
    let clock = c.read_clock-moment.ensures.read in
    let says = c.fall_short-in-Err.ensures.says in
    broken_short front [] _ _ _ _ _ _ _ _ says.0 _ _ _ _ c.args.settings.now c.args.place c.args.last c.args.head.now clock.0 c.fall_short-in-Err.result spells says.1 says.2 clock.1
    (moves_nothing (g.S.Source.left c.args.source.now) c.args.inbox.now)

pub serve_whole-requires-after_bounds : goal.serve_whole-requires-after_bounds
serve_whole-requires-after_bounds g c κs within =
    let read = read_some _ _ _ _ _ _ (sym c.in-Ok-Some.field-0-is ∙ c.in-Ok-Some.ensures) in
    dated _ c.args.head.now _ c.args.last c.in-Ok-Some.manner read.1 c.read_clock-moment.ensures.within
