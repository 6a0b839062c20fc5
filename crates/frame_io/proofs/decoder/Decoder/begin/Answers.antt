use Rattle.std.proofs.Common.{◌≡◌, ◌∙◌, ◌+◌, ◌<◌, ◌≤◌, false, length, sym, ap, subst, arith}
use Rattle.std.specs.Prelude.{Some}
use Rattle.frame_io.specs.declared.fault.BadFrame.TheVariants.{Channels, Long}
use Rattle.frame_io.specs.Decoder.{AreShort, Decoding, IsBounded, Polled, rest_of}
use Rattle.frame_io.specs.Frames.{bytes_of, is_open, is_one_more, read_from, refusal, taken}
use Rattle.frame_io.proofs.Bounds.{bounded_without, room_left}
use Rattle.frame_io.proofs.Steps.{polled_by, too_many, too_long, last_one, was_open, has_room}
use Rattle.frame_io.proofs.decoder.Decoder.begin.Goals as goal
use Rattle.frame_io.proofs.decoder.Decoder.begin.Goals.{else-not-head-via-then-not-head+then-not-known+else-already-self}
use Rattle.frame_io.proofs.decoder.Decoder.begin.Goals.{else-not-head-via-then-not-head+else-not-known, else-not-head-via-else-not-head}

pub returns-then-already-self-clause-answer : goal.returns-then-already-self-clause-answer
returns-then-already-self-clause-answer c = λ left.
    let i = c.self.inside in
    let was : Decoding = record {
      limits = i.limits;
      channels = i.channels.items;
      head = i.head;
      piece = i.piece;
      bytes = i.bytes;
      stop = i.stop;
      offset = i.offset;
    } in
    let is : was ≡ c.args.self.now = c.self.view_is in
    let head = c.args.head in
    let known : is_open head.channel was.channels ≡ false = sym c.opened-bytes.ensures.known ∙ c.if-not-known.true in
    let many : was.limits.channels ≤ length was.channels = omega (arith, c.len-already.ensures) in
    let why : refusal was.limits was.channels head ≡ Some Channels =
    too_many was.limits was.channels head c.if-not-head.true known many in
    subst (λ (d : Decoding). Polled (taken (λ o n b. read_from d.limits o n b) d.channels d.offset head c.args.count left
    (refusal d.limits d.channels head)) (rest_of c.stop_at.new.self left) c.stop_at.result) is
    (polled_by _ _ _ _ (ap (λ w. taken (λ o n b. read_from was.limits o n b) was.channels was.offset head c.args.count left w) why)
    (c.stop_at.ensures.answer left))

pub returns-then-len-head-clause-answer : goal.returns-then-len-head-clause-answer
returns-then-len-head-clause-answer c = λ left.
    let i = c.self.inside in
    let was : Decoding = record {
      limits = i.limits;
      channels = i.channels.items;
      head = i.head;
      piece = i.piece;
      bytes = i.bytes;
      stop = i.stop;
      offset = i.offset;
    } in
    let is : was ≡ c.args.self.now = c.self.view_is in
    let head = c.args.head in
    let one : is_one_more was.limits was.channels head ≡ false =
    elim c.else-not-head.branch [
      | else-not-head-via-then-not-head+then-not-known+else-already-self w ↦
          has_room was.limits was.channels head (omega (arith, c.len-already.ensures, w.if-already-self.false))
      | else-not-head-via-then-not-head+else-not-known w ↦
          was_open was.limits was.channels head (sym c.opened-bytes.ensures.known ∙ w.if-not-known.false)
      | else-not-head-via-else-not-head w ↦ last_one was.limits was.channels head w.if-not-head.false
    ] in
    let long : was.limits.bytes < length (bytes_of head.channel was.channels) + head.size =
    omega (arith, c.len.ensures, ap length c.opened-bytes.ensures.bytes, c.if-len-head.true) in
    let why : refusal was.limits was.channels head ≡ Some Long = too_long was.limits was.channels head one long in
    subst (λ (d : Decoding). Polled (taken (λ o n b. read_from d.limits o n b) d.channels d.offset head c.args.count left
    (refusal d.limits d.channels head)) (rest_of c.stop_at-then-len-head.new.self left) c.stop_at-then-len-head.result) is
    (polled_by _ _ _ _ (ap (λ w. taken (λ o n b. read_from was.limits o n b) was.channels was.offset head c.args.count left w) why)
    (c.stop_at-then-len-head.ensures.answer left))

pub invariant_of-self : goal.invariant_of-self
invariant_of-self c =
    let i = c.self.inside in
    record {
      part = c.self.invariant.part;
      none = c.self.invariant.none;
      bound = subst (λ l. IsBounded i.limits l i.piece i.bytes) (sym c.opened-bytes.ensures.rest)
          (bounded_without i.limits c.args.head.channel i.channels.items i.piece i.bytes c.self.invariant.bound);
    }

pub invariant_of-self-then-len-head : goal.invariant_of-self-then-len-head
invariant_of-self-then-len-head c =
    let i = c.self.inside in
    record {
      part = c.self.invariant.part;
      none = c.self.invariant.none;
      bound = subst (λ l. IsBounded i.limits l i.piece i.bytes) (sym c.opened-bytes.ensures.rest)
          (bounded_without i.limits c.args.head.channel i.channels.items i.piece i.bytes c.self.invariant.bound);
    }

pub invariant_of-self-2 : goal.invariant_of-self-2
invariant_of-self-2 c =
    let i = c.self.inside in
    let head = c.args.head in
    let one : is_one_more i.limits i.channels.items head ≡ false =
    elim c.else-not-head.branch [
      | else-not-head-via-then-not-head+then-not-known+else-already-self w ↦
          has_room i.limits i.channels.items head (omega (arith, c.len-already.ensures, w.if-already-self.false))
      | else-not-head-via-then-not-head+else-not-known w ↦
          was_open i.limits i.channels.items head (sym c.opened-bytes.ensures.known ∙ w.if-not-known.false)
      | else-not-head-via-else-not-head w ↦ last_one i.limits i.channels.items head w.if-not-head.false
    ] in
    let bound = bounded_without i.limits head.channel i.channels.items i.piece i.bytes c.self.invariant.bound in
    let rest = c.opened-bytes.ensures.rest in
    record {
      part = c.self.invariant.part;
      none = (ap (λ d. d.head) c.self.view_is ∙ c.requires.begun, omega arith);
      bound = record {
        few = subst (λ l. length l ≤ i.limits.channels) (sym rest) bound.few;
        short = subst (AreShort i.limits.bytes) (sym rest) bound.short;
        within = omega (arith, c.len.ensures, c.if-len-head.false);
        begun = (
          omega (arith, c.len.ensures, c.if-len-head.false),
          λ last. subst (λ l. length l < i.limits.channels) (sym rest)
              (room_left i.limits i.channels.items head one c.self.invariant.bound.few last),
        );
      };
    }
