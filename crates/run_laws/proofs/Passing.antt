-- What each transfer leaves of a handle.
use Rattle.std.proofs.Common.{◌≡◌, ℕ, true, false, List, [], ◌∷◌, ◌++◌, length, take, drop, Option, Some, slice_get}
use Rattle.std.proofs.Common.{refl, sym, ◌∙◌, ap, subst, true≢false}
use Rattle.std.specs.List.{flat_map}
use Rattle.std.proofs.lemmas.List.{append-nil, append_assoc, take-append-drop}
use Rattle.std.proofs.lemmas.List.Concat.{flat_map-cons}
use Rattle.std.proofs.lemmas.Grind.{flat_map-append}
use Rattle.machine.specs.declared.world.HandleKind.{HandleKind}
use Rattle.machine.specs.declared.world.HandleKind.TheVariants.{Stream, Datagram, File, Pipe, Listener}
use Rattle.machine.specs.declared.world.HandleState.{HandleState}
use Rattle.machine.specs.World.{fresh, is_file, with_input, with_output, with_message, with_end}
use Rattle.machine.specs.Effect.{without_front, without_message, sent_to_kind, with_sent, with_sent_message, with_written}
use Rattle.run_laws.specs.Transfers.{Transfer, Fed, Taken, Sent, Written, MessageFed, MessageTaken, MessageSent}
use Rattle.run_laws.specs.Bytes.{sent_in, sent_out, brought, taken, put_out, message_brought, message_left, message_put_out}
use Rattle.run_laws.specs.Files.{Piece, pieces}
use Rattle.machine.proofs.Appended.{drop-suc}
use Rattle.run_laws.proofs.Files.{Holds, holds-none, holds-fed, holds-written}

-- A handle after a transfer.
abbrev pub after_transfer : Transfer → HandleState → HandleState
after_transfer (Fed bytes) handle = with_input bytes handle
after_transfer (Taken bytes) handle = without_front (length bytes) handle
after_transfer (Sent bytes) handle = with_sent bytes handle
after_transfer (Written pos bytes) handle = with_written pos bytes handle
after_transfer (MessageFed addr bytes) handle = with_message addr bytes handle
after_transfer (MessageTaken message) handle = without_message handle
after_transfer (MessageSent addr bytes) handle = with_sent_message addr bytes handle

-- What a transfer finds at a handle: bytes that leave are the first of its input, and it is no file; it is one where bytes are written;
-- and a message that leaves is the first one.
abbrev pub Fits : Transfer → HandleState → Type 0
Fits (Taken bytes) handle = (take (length bytes) handle.input ≡ bytes) × (is_file handle.kind ≡ false)
Fits (Written pos bytes) handle = is_file handle.kind ≡ true
Fits (MessageTaken message) handle = slice_get handle.messages_in 0 ≡ Some message
Fits _ handle = Unit {0}

-- What a handle has, by the transfers at it.
pub record IsLeft (made : List Transfer) (handle : HandleState) : Type 0 where
  pub input : is_file handle.kind ≡ false → flat_map (brought handle.kind) made ≡ flat_map taken made ++ handle.input
  pub file : is_file handle.kind ≡ true → Holds (pieces [] made) handle.input
  pub output : flat_map (put_out handle.kind) made ≡ handle.output
  pub messages : flat_map message_brought made ≡ flat_map message_left made ++ handle.messages_in
  pub messages_out : flat_map message_put_out made ≡ handle.messages_out

-- A new handle has nothing.
pub left-fresh : (kind : HandleKind) → IsLeft [] (fresh kind)
left-fresh kind = record { input = λ plain. refl; file = λ is. holds-none; output = refl; messages = refl; messages_out = refl }

-- The mark of its end is no transfer.
pub left-end : (made : List Transfer) (handle : HandleState) → IsLeft made handle → IsLeft made (with_end handle)
left-end made handle a =
    record { input = a.input; file = a.file; output = a.output; messages = a.messages; messages_out = a.messages_out }

module _ {A : Type 0} (f : Transfer → List A) (made : List Transfer) (t : Transfer) where
  -- What one transfer more brings comes last.
  flat-next : flat_map f (made ++ t ∷ []) ≡ flat_map f made ++ f t
  flat-next = flat_map-append f made (t ∷ []) ∙ ap (λ xs. flat_map f made ++ xs) (flat_map-cons f t [] ∙ append-nil (f t))

  -- One that brings nothing changes nothing.
  flat-quiet : f t ≡ [] → flat_map f (made ++ t ∷ []) ≡ flat_map f made
  flat-quiet none = flat-next ∙ ap (λ xs. flat_map f made ++ xs) none ∙ append-nil (flat_map f made)

-- What came is what was taken, and behind it what waits: by one transfer more.
module _ {A : Type 0} (f g : Transfer → List A) (made : List Transfer) (t : Transfer) (waiting : List A)
    (before : flat_map f made ≡ flat_map g made ++ waiting) where
  -- It moves none.
  both-quiet : f t ≡ [] → g t ≡ [] → flat_map f (made ++ t ∷ []) ≡ flat_map g (made ++ t ∷ []) ++ waiting
  both-quiet comes goes = flat-quiet f made t comes ∙ before ∙ ap (λ xs. xs ++ waiting) (sym (flat-quiet g made t goes))

  -- It brings some.
  both-come : (more : List A) → f t ≡ more → g t ≡ [] → flat_map f (made ++ t ∷ []) ≡ flat_map g (made ++ t ∷ []) ++ (waiting ++ more)
  both-come more comes goes =
      flat-next f made t ∙ ap (λ xs. flat_map f made ++ xs) comes ∙ ap (λ xs. xs ++ more) before
      ∙ append_assoc (flat_map g made) waiting more ∙ ap (λ xs. xs ++ (waiting ++ more)) (sym (flat-quiet g made t goes))

  -- It takes the first.
  both-go : (first rest : List A) → f t ≡ [] → g t ≡ first → waiting ≡ first ++ rest →
      flat_map f (made ++ t ∷ []) ≡ flat_map g (made ++ t ∷ []) ++ rest
  both-go first rest comes goes is =
      flat-quiet f made t comes ∙ before ∙ ap (λ xs. flat_map g made ++ xs) is ∙ sym (append_assoc (flat_map g made) first rest)
      ∙ ap (λ xs. xs ++ rest) (sym (flat-next g made t ∙ ap (λ xs. flat_map g made ++ xs) goes))

-- The pieces after one transfer more.
pieces-next : (older : List Piece) (made : List Transfer) (t : Transfer) →
    pieces older (made ++ t ∷ []) ≡ pieces (pieces older made) (t ∷ [])
pieces-next older [] t = refl
pieces-next older (Fed bytes ∷ made) t = pieces-next (pieces older (Fed bytes ∷ [])) made t
pieces-next older (Taken bytes ∷ made) t = pieces-next older made t
pieces-next older (Sent bytes ∷ made) t = pieces-next older made t
pieces-next older (Written pos bytes ∷ made) t = pieces-next (pieces older (Written pos bytes ∷ [])) made t
pieces-next older (MessageFed addr bytes ∷ made) t = pieces-next older made t
pieces-next older (MessageTaken message ∷ made) t = pieces-next older made t
pieces-next older (MessageSent addr bytes ∷ made) t = pieces-next older made t

module _ (made : List Transfer) (handle : HandleState) (a : IsLeft made handle) where
  -- The file after a transfer that makes these bytes of it.
  file-next : (t : Transfer) (bytes : List ℕ) → Holds (pieces (pieces [] made) (t ∷ [])) bytes → Holds (pieces [] (made ++ t ∷ [])) bytes
  file-next t bytes h = subst (λ put. Holds put bytes) (sym (pieces-next [] made t)) h

  -- Bytes are fed.
  left-fed : (bytes : List ℕ) → IsLeft (made ++ Fed bytes ∷ []) (with_input bytes handle)
  left-fed bytes =
      let t : Transfer = Fed bytes in
      record {
        input = λ plain. both-come (brought handle.kind) taken made t handle.input (a.input plain) bytes refl refl;
        file = λ is. file-next t (handle.input ++ bytes) (holds-fed (pieces [] made) handle.input bytes (a.file is));
        output = flat-quiet (put_out handle.kind) made t refl ∙ a.output;
        messages = both-quiet message_brought message_left made t handle.messages_in a.messages refl refl;
        messages_out = flat-quiet message_put_out made t refl ∙ a.messages_out;
      }

  -- The first bytes leave.
  left-taken : (bytes : List ℕ) → Fits (Taken bytes) handle → IsLeft (made ++ Taken bytes ∷ []) (without_front (length bytes) handle)
  left-taken bytes fits =
      let t : Transfer = Taken bytes in
      let rest : List ℕ = drop (length bytes) handle.input in
      let whole : handle.input ≡ bytes ++ rest =
      sym (take-append-drop (length bytes) handle.input) ∙ ap (λ xs. xs ++ rest) fits.0 in
      record {
        input = λ plain. both-go (brought handle.kind) taken made t handle.input (a.input plain) bytes rest refl refl whole;
        file = λ is. absurd (true≢false (sym is ∙ fits.1));
        output = flat-quiet (put_out handle.kind) made t refl ∙ a.output;
        messages = both-quiet message_brought message_left made t handle.messages_in a.messages refl refl;
        messages_out = flat-quiet message_put_out made t refl ∙ a.messages_out;
      }

  -- Bytes are sent, and join the output.
  left-put_out : (bytes : List ℕ) → sent_in handle.kind bytes ≡ [] → sent_out handle.kind bytes ≡ bytes →
      IsLeft (made ++ Sent bytes ∷ []) (with_output bytes handle)
  left-put_out bytes none all =
      let t : Transfer = Sent bytes in
      record {
        input = λ plain. both-quiet (brought handle.kind) taken made t handle.input (a.input plain) none refl;
        file = λ is. file-next t handle.input (a.file is);
        output = flat-next (put_out handle.kind) made t ∙ ap (λ xs. flat_map (put_out handle.kind) made ++ xs) all
            ∙ ap (λ xs. xs ++ bytes) a.output;
        messages = both-quiet message_brought message_left made t handle.messages_in a.messages refl refl;
        messages_out = flat-quiet message_put_out made t refl ∙ a.messages_out;
      }

  -- Bytes are sent to a pipe.
  left-piped : (bytes : List ℕ) → handle.kind ≡ Pipe → IsLeft (made ++ Sent bytes ∷ []) (with_input bytes handle)
  left-piped bytes pipe =
      let t : Transfer = Sent bytes in
      record {
        input = λ plain. both-come (brought handle.kind) taken made t handle.input (a.input plain) bytes
            (ap (λ kind. sent_in kind bytes) pipe) refl;
        file = λ is. absurd (true≢false (sym is ∙ ap is_file pipe));
        output = flat-quiet (put_out handle.kind) made t (ap (λ kind. sent_out kind bytes) pipe) ∙ a.output;
        messages = both-quiet message_brought message_left made t handle.messages_in a.messages refl refl;
        messages_out = flat-quiet message_put_out made t refl ∙ a.messages_out;
      }

  -- Bytes are sent, by the kind of the handle.
  left-sent : (bytes : List ℕ) (kind : HandleKind) → handle.kind ≡ kind → IsLeft (made ++ Sent bytes ∷ []) (sent_to_kind kind bytes handle)
  left-sent bytes Pipe is = left-piped bytes is
  left-sent bytes Stream is = left-put_out bytes (ap (λ kind. sent_in kind bytes) is) (ap (λ kind. sent_out kind bytes) is)
  left-sent bytes Datagram is = left-put_out bytes (ap (λ kind. sent_in kind bytes) is) (ap (λ kind. sent_out kind bytes) is)
  left-sent bytes File is = left-put_out bytes (ap (λ kind. sent_in kind bytes) is) (ap (λ kind. sent_out kind bytes) is)
  left-sent bytes Listener is = left-put_out bytes (ap (λ kind. sent_in kind bytes) is) (ap (λ kind. sent_out kind bytes) is)

  -- Bytes are written.
  left-written : (pos : ℕ) (bytes : List ℕ) → is_file handle.kind ≡ true →
      IsLeft (made ++ Written pos bytes ∷ []) (with_written pos bytes handle)
  left-written pos bytes file =
      let t : Transfer = Written pos bytes in
      record {
        input = λ plain. absurd (true≢false (sym file ∙ plain));
        file = λ is. file-next t _ (holds-written (pieces [] made) handle.input pos bytes (a.file is));
        output = flat-quiet (put_out handle.kind) made t refl ∙ a.output;
        messages = both-quiet message_brought message_left made t handle.messages_in a.messages refl refl;
        messages_out = flat-quiet message_put_out made t refl ∙ a.messages_out;
      }

  -- A message is fed.
  left-message_fed : (addr : ℕ) (bytes : List ℕ) → IsLeft (made ++ MessageFed addr bytes ∷ []) (with_message addr bytes handle)
  left-message_fed addr bytes =
      let t : Transfer = MessageFed addr bytes in
      record {
        input = λ plain. both-quiet (brought handle.kind) taken made t handle.input (a.input plain) refl refl;
        file = λ is. file-next t handle.input (a.file is);
        output = flat-quiet (put_out handle.kind) made t refl ∙ a.output;
        messages = both-come message_brought message_left made t handle.messages_in a.messages ((addr, bytes) ∷ []) refl refl;
        messages_out = flat-quiet message_put_out made t refl ∙ a.messages_out;
      }

  -- A message leaves.
  left-message_taken : (message : ℕ × List ℕ) → slice_get handle.messages_in 0 ≡ Some message →
      IsLeft (made ++ MessageTaken message ∷ []) (without_message handle)
  left-message_taken message first =
      let t : Transfer = MessageTaken message in
      record {
        input = λ plain. both-quiet (brought handle.kind) taken made t handle.input (a.input plain) refl refl;
        file = λ is. file-next t handle.input (a.file is);
        output = flat-quiet (put_out handle.kind) made t refl ∙ a.output;
        messages = both-go message_brought message_left made t handle.messages_in a.messages (message ∷ []) (drop 1 handle.messages_in)
            refl refl (drop-suc handle.messages_in 0 message first);
        messages_out = flat-quiet message_put_out made t refl ∙ a.messages_out;
      }

  -- A message is sent.
  left-message_sent : (addr : Option ℕ) (bytes : List ℕ) →
      IsLeft (made ++ MessageSent addr bytes ∷ []) (with_sent_message addr bytes handle)
  left-message_sent addr bytes =
      let t : Transfer = MessageSent addr bytes in
      record {
        input = λ plain. both-quiet (brought handle.kind) taken made t handle.input (a.input plain) refl refl;
        file = λ is. file-next t handle.input (a.file is);
        output = flat-quiet (put_out handle.kind) made t refl ∙ a.output;
        messages = both-quiet message_brought message_left made t handle.messages_in a.messages refl refl;
        messages_out = flat-next message_put_out made t ∙ ap (λ xs. xs ++ (addr, bytes) ∷ []) a.messages_out;
      }

-- What a handle has after one transfer more.
pub left-next : (t : Transfer) (made : List Transfer) (handle : HandleState) → Fits t handle → IsLeft made handle →
    IsLeft (made ++ t ∷ []) (after_transfer t handle)
left-next (Fed bytes) made handle fits a = left-fed made handle a bytes
left-next (Taken bytes) made handle fits a = left-taken made handle a bytes fits
left-next (Sent bytes) made handle fits a = left-sent made handle a bytes handle.kind refl
left-next (Written pos bytes) made handle fits a = left-written made handle a pos bytes fits
left-next (MessageFed addr bytes) made handle fits a = left-message_fed made handle a addr bytes
left-next (MessageTaken message) made handle fits a = left-message_taken made handle a message fits
left-next (MessageSent addr bytes) made handle fits a = left-message_sent made handle a addr bytes
