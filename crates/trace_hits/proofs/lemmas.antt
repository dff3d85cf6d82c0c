pub mod timely
