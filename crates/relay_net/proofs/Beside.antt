-- Connections that have no handle in common, and what is on its way beside another.
use Rattle.std.proofs.Common.{ℕ, ◌≡◌, ◌≢◌, ◌∙◌, ap, sym, refl, subst, Bool, IsTrue, List, ◌++◌}
use Rattle.std.proofs.Common.{Option, Some, None, inl, inr}
use Rattle.std.specs.Prelude.{◌⊎◌}
use Rattle.rent_buf.specs.Buffer.{Buffer}
use Rattle.rent_buf.specs.Parts.{Parts}
use Rattle.rent_buf.specs.declared.plain.Buf.{Buf}
use Rattle.machine.specs.World.{input_at}
use Rattle.machine.specs.declared.request.Request.{Request}
use Rattle.machine.specs.declared.world.HandleState.{HandleState}
use Rattle.driver_core.specs.Ops.{Ops}
use Rattle.net_stream.specs.Told.{output_at}
use Rattle.relay_net.specs.Connection.{FitsBack, FitsConnection, IsOutside, KeepsLines}
use Rattle.relay_net.specs.Connection.{KeepsStreams, far_of, held_back, held_by, held_forth, near_of}
use Rattle.relay_net.specs.Flow.{IsReceive, IsSend, line}
use Rattle.relay_net.specs.Keeping.{KeepsOps}
use Rattle.relay_net.specs.Relay.{AreBeside, IsAccept, IsApartFrom}
use Rattle.relay_net.specs.declared.connection.Connection.{Connection}
use Rattle.relay_net.specs.declared.flow.Flow.{Flow}
use Rattle.relay_net.proofs.Connections.{receive_else, send_else, stage_kept}

-- A receive or a send at a handle that is neither of two is none of either direction between them.
receive_outside : (room x near far : ℕ) → x ≢ near → x ≢ far → (request : Request Buffer Parts) → IsReceive room x request
    → IsOutside near far request
receive_outside room x near far a b request is = (receive_else room x near far a request is, receive_else room x far near b request is)

-- So is a send.
send_outside : (x near far : ℕ) → x ≢ near → x ≢ far → (count : ℕ) (request : Request Buffer Parts) → IsSend x count request
    → IsOutside near far request
send_outside x near far a b count request is = (send_else x near far b count request is, send_else x far near a count request is)

-- So is an accept.
pub accept_outside : (listener near far : ℕ) (request : Request Buffer Parts) → IsAccept listener request → IsOutside near far request
accept_outside listener near far request is = subst (IsOutside near far) (sym is) (tt, tt)

-- A connection whose operations are kept waits for what it waited for, and holds what it held.
pub record IsKept (old new : Ops Buf) (conn : Connection) : Type 0 where
  pub fits : FitsConnection new conn
  pub forth : held_forth new conn ≡ held_forth old conn
  pub back : held_back new conn ≡ held_back old conn

-- A connection is kept so where the requests that it waits for are among those that stay.
pub connection_kept : (old new : Ops Buf) (Q : Request Buffer Parts → Type 0) (conn : Connection) → KeepsOps Q old new
    → ((h : ℕ) → (h ≡ near_of conn) ⊎ (h ≡ far_of conn) → (request : Request Buffer Parts) → IsReceive conn.room h request → Q request)
    → ((h : ℕ) → (h ≡ near_of conn) ⊎ (h ≡ far_of conn) → (count : ℕ) (request : Request Buffer Parts) → IsSend h count request
    → Q request) → FitsConnection old conn → IsKept old new conn
connection_kept old new Q conn keeps receives sends fits =
    let forth = stage_kept conn.room old new Q (near_of conn) (far_of conn) conn.forth.stage keeps (receives (near_of conn) (inl refl))
    (sends (far_of conn) (inr refl)) fits.0 in
    let back = by-back conn.back fits.1 in
    record { fits = (forth.0, back.0); forth = forth.1; back = back.1 }
  where
    by-back : (back : Option Flow) → FitsBack conn.room old (near_of conn) (far_of conn) back
        → FitsBack conn.room new (near_of conn) (far_of conn) back × (held_by new back ≡ held_by old back)
    by-back None fits = (fits, refl)
    by-back (Some flow) fits =
        let kept = stage_kept conn.room old new Q (far_of conn) (near_of conn) flow.stage keeps (receives (far_of conn) (inr refl))
        (sends (near_of conn) (inl refl)) fits.3 in
        ((fits.0, fits.1, fits.2, kept.0), kept.1)

-- A connection that has neither of two handles keeps its operations where those that are none of theirs are kept.
pub outside_kept : (old new : Ops Buf) (near far : ℕ) (conn : Connection) → KeepsOps (IsOutside near far) old new
    → IsApartFrom conn near far → FitsConnection old conn → IsKept old new conn
outside_kept old new near far conn keeps apart fits =
    connection_kept old new (IsOutside near far) conn keeps
    (λ h own. receive_outside conn.room h near far (near-apart h own) (far-apart h own))
    (λ h own. send_outside h near far (near-apart h own) (far-apart h own)) fits
  where
    near-apart : (h : ℕ) → (h ≡ near_of conn) ⊎ (h ≡ far_of conn) → h ≢ near
    near-apart h (inl e) same = apart.near_near (sym e ∙ same)
    near-apart h (inr e) same = apart.far_near (sym e ∙ same)

    far-apart : (h : ℕ) → (h ≡ near_of conn) ⊎ (h ≡ far_of conn) → h ≢ far
    far-apart h (inl e) same = apart.near_far (sym e ∙ same)
    far-apart h (inr e) same = apart.far_far (sym e ∙ same)

-- The lines of a connection stay where the bytes at its handles do, and it holds what it held.
pub bytes_lines : (tells : Bool) (old new : List HandleState) (near far : ℕ) (forth back forth_now back_now : List ℕ)
    → (IsTrue tells → (output_at new near ≡ output_at old near) × (input_at new near ≡ input_at old near))
    → (IsTrue tells → (output_at new far ≡ output_at old far) × (input_at new far ≡ input_at old far))
    → forth_now ≡ forth → back_now ≡ back → KeepsLines tells old new near far forth back forth_now back_now
bytes_lines tells old new near far forth back forth_now back_now at_near at_far same_forth same_back = record {
  forth_line = λ t a b. ap (line new near far) same_forth
      ∙ (ap (λ o. o ++ (forth ++ input_at new near)) (at_far t).0 ∙ ap (λ w. output_at old far ++ (forth ++ w)) (at_near t).1);
  back_line = λ t apart a b. ap (line new far near) same_back
      ∙ (ap (λ o. o ++ (back ++ input_at new far)) (at_near t).0 ∙ ap (λ w. output_at old near ++ (back ++ w)) (at_far t).1);
}

-- Lines that stay in one call and then in another.
pub lines_then : (tells : Bool) (old mid new : List HandleState) (near far : ℕ) (f b f1 b1 f2 b2 : List ℕ)
    → (IsTrue tells → KeepsStreams old mid) → KeepsLines tells old mid near far f b f1 b1 → KeepsLines tells mid new near far f1 b1 f2 b2
    → KeepsLines tells old new near far f b f2 b2
lines_then tells old mid new near far f b f1 b1 f2 b2 streams first second = record {
  forth_line = λ t a c. second.forth_line t ((streams t near).0 a) ((streams t far).0 c) ∙ first.forth_line t a c;
  back_line = λ t apart a c. second.back_line t apart ((streams t near).0 a) ((streams t far).0 c) ∙ first.back_line t apart a c;
}

-- Who is found twice at a place is one.
pub found_same : {X : Type 0} (found : Option X) (one other : X) → found ≡ Some one → found ≡ Some other → one ≡ other
found_same found one other first second = let e : Some one ≡ Some other = sym first ∙ second in cc

-- To be beside a connection is to be beside one with its handles.
pub beside_same : (conn one other : Connection) → near_of other ≡ near_of one → far_of other ≡ far_of one → AreBeside conn one
    → AreBeside conn other
beside_same conn one other near far apart =
    subst (λ h. IsApartFrom conn h (far_of other)) (sym near) (subst (λ h. IsApartFrom conn (near_of one) h) (sym far) apart)

-- Two connections are beside each other in either order.
pub beside_swap : (one other : Connection) → AreBeside one other → AreBeside other one
beside_swap one other apart = record {
  near_near = λ same. apart.near_near (sym same);
  near_far = λ same. apart.far_near (sym same);
  far_near = λ same. apart.near_far (sym same);
  far_far = λ same. apart.far_far (sym same);
}
