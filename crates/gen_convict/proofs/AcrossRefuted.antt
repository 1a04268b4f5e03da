-- Two headers with one run id collide.
use Rattle.std.proofs.Common.{◌≡◌, ℕ, List, [], ◌++◌, ap}
use Rattle.gen_types.specs.Spelled.{HasOneSpelling}
use Rattle.gen_net.specs.Header.{IsHeader, header_spelling, run_id_of}
use Rattle.gen_convict.specs.AcrossAnswers.{HeadersCollide}

pub headers_collide : HasOneSpelling IsHeader header_spelling → HeadersCollide
unfolding run_id_of
headers_collide one h k is_h is_k ne same = (
  (λ e.
      let spelled : header_spelling h ≡ header_spelling k = cc in
      ne (one h k [] [] is_h is_k (ap (λ (t : List ℕ). t ++ []) spelled)).0),
  same,
)
